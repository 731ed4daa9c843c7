use Rattle.line.specs.With.{lent}
use Rattle.rules.specs.Arrival.{clear_rule}
use mathlib.Core.Path.{refl}
use Rattle.line.proofs.FlowChanges.{here_rule}
use Rattle.line.proofs.Turns.{then_does}
use Rattle.line.proofs.Work.clears.Goals as goal

pub returns : goal.returns
unfolding clear_rule
returns c =
    let a = c.args in
    let cleared = c.clears_rubbing_out.ensures in record {
      rule = λ l m.
          then_does (c.empties_typed-next.ensures.rule (lent a.t a.text.now l) _ m)
          (here_rule refl (cleared.rule l m));
    }
