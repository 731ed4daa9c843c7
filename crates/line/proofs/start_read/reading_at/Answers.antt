use mathlib.Core.Bool.{◌&&◌}
use lib.Dec.{eqb}
use Prim.Native.Nat.{◌-◌}
use Rattle.rules.specs.StartRead.Acceptance.{hides_input}
use Rattle.message.specs.Found.{start_read_in}
use Rattle.line.proofs.start_read.reading_at.Goals as goal

pub returns : goal.returns
unfolding hides_input start_read_in
returns c =
    let a = c.args in
    let f = a.f in
    λ i. record {
      input_len = f.end_of_data - f.end_of_prompt;
      low_water = f.low_water;
      hidden_lf = c.hides_lf.ensures i && eqb f.end_of_prompt 0;
      display_column = a.column;
      idle = 0;
    }
