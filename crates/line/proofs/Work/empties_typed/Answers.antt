use mathlib.Core.Path.{refl}
use Rattle.line.proofs.FlowChanges.{here_rule}
use Rattle.rules.specs.Arrival.{empties_typed}
use Rattle.line.proofs.Turns.{told_does}
use Rattle.line.proofs.ArrivalLaws.{emptied_does}
use Rattle.line.proofs.Work.empties_typed.Goals as goal

pub returns : goal.returns
unfolding empties_typed
returns c =
    let self = c.args.self in
    let e = c.emptied-next.ensures in
    let next = c.with_typed.ensures in record {
      rule = λ l t m.
          here_rule refl (told_does _ (emptied_does self next e l t m));
    }
