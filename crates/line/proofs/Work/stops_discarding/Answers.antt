use mathlib.Core.Path.{refl}
use mathlib.Core.Bool.{false}
use borrow.Author.Tests.{eq-eqb, ne_eqb}
use Rattle.rules.specs.State.{with_discarding}
use Rattle.rules.specs.Write.{stops_discarding}
use Rattle.line.proofs.Turns.{still_does, only_does, not_does}
use Rattle.line.proofs.ArrivalLaws.{terminal_does}
use Rattle.line.proofs.Work.stops_discarding.Goals as goal
use Rattle.line.proofs.Work.stops_discarding.Goals.{then-keeps-eq-ON, else-keeps-eq-ON}

pub returns : goal.returns
unfolding stops_discarding
returns c =
    let self = c.args.self in
    record {
      rule = λ l t m.
          elim c.if-keeps-eq-ON.branch [
            | then-keeps-eq-ON w ↦ rw w.next-is (only_does _ (eq-eqb c.args.keeps 1 w.if-keeps-eq-ON.true) (terminal_does self _ (with_discarding false) refl l t m))
            | else-keeps-eq-ON w ↦ rw w.next-is (not_does _ (ne_eqb c.args.keeps 1 w.if-keeps-eq-ON.false) (still_does _ t m))
          ];
    }
