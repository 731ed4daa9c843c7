use Rattle.line.specs.With.{lent}
use Rattle.rules.specs.State.{codes}
use Rattle.rules.specs.Arrival.{without_rubbing, clears_input}
use Rattle.rules.specs.Turns.{cleared}
use Rattle.line.proofs.Turns.{still_does}
use Rattle.line.proofs.ArrivalLaws.{pending_does, idle_does}
use Rattle.line.proofs.Work.clears_without_rubbing.Goals as goal

pub returns-in-Some : goal.returns-in-Some
unfolding clears_input
returns-in-Some c =
    let a = c.args in
    let deleted = c.deletes_without_rubbing.ensures in
    record { rule = λ text l x m. pending_does (clears_input codes without_rubbing) (lent a.t text l) c.in-Some.is (deleted.rule cleared text l x m) }

pub returns : goal.returns
unfolding clears_input
returns c =
    let a = c.args in
    record { rule = λ text l x m. idle_does (clears_input codes without_rubbing) (lent a.t text l) c.in_default.is (still_does _ x m) }
