use mathlib.Core.Bool.{◌&&◌}
use lib.Dec.{eqb}
use Rattle.line.proofs.start_read.terms_for.Goals as goal

pub returns : goal.returns
returns c =
    let a = c.args in
    let f = a.f in
    λ i. record {
      underflow = f.underflow;
      disables = f.disables;
      raises = c.chosen.ensures i;
      recognises = c.chosen-2.ensures i;
      echoes = eqb f.silent 0 && a.switches.echoing;
      terminator_echo = eqb f.terminator_echo 1;
      auto_prompt = a.switches.prompting;
      timed = eqb f.timed 1;
      timeout = f.timeout;
      max_length = f.max_length;
      end_of_prompt = f.end_of_prompt;
      prompt_len = a.size;
      column = a.cursor.column;
      line = a.cursor.line;
    }
