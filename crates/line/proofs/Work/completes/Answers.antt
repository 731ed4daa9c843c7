use mathlib.Core.Path.{refl}
use Rattle.rules.specs.ReadData.{completes}
use Rattle.line.proofs.Turns.{then_does}
use Rattle.line.proofs.FlowChanges.{off_does}
use Rattle.line.proofs.Work.completes.Goals as goal

pub sends_read_data-answered-requires : goal.sends_read_data-answered-requires
sends_read_data-answered-requires c = record { input_len_bound = c.requires.input_len_bound; ending_bound = c.requires.ending_bound }

pub returns : goal.returns
unfolding completes
returns c =
    let answered = c.sends_read_data-answered in
    record {
      rule = λ k l x.
          then_does (c.loses_partial-ready.ensures.rule k x _)
          (then_does (answered.ensures.rule k l x) (off_does answered.result k x _));
      ended = refl;
    }
