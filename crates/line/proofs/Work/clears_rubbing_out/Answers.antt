use Rattle.line.specs.With.{lent}
use Rattle.rules.specs.State.{codes}
use Rattle.rules.specs.Arrival.{rubbing_out, clears_input}
use Rattle.rules.specs.Turns.{cleared}
use Rattle.line.proofs.Turns.{still_does}
use Rattle.line.proofs.ArrivalLaws.{pending_does, idle_does}
use Rattle.line.proofs.Work.clears_rubbing_out.Goals as goal

pub returns-in-Some : goal.returns-in-Some
unfolding clears_input
returns-in-Some c =
    let a = c.args in
    let deleted = c.deletes.ensures in
    record { rule = λ l m. pending_does (clears_input codes rubbing_out) (lent a.t a.text.now l) c.in-Some.is (deleted.rule cleared l m) }

pub returns : goal.returns
unfolding clears_input
returns c =
    let a = c.args in
    record { rule = λ l m. idle_does (clears_input codes rubbing_out) (lent a.t a.text.now l) c.in_default.is (still_does _ _ m) }
