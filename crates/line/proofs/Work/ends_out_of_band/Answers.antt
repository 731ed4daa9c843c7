use Rattle.line.specs.With.{lent}
use Rattle.rules.specs.State.{codes}
use Rattle.rules.specs.Arrival.{ends_out_of_band}
use Rattle.line.proofs.Turns.{still_does}
use Rattle.line.proofs.ArrivalLaws.{pending_does, idle_does}
use Rattle.line.proofs.Work.ends_out_of_band.Goals as goal

pub returns-in-Some : goal.returns-in-Some
unfolding ends_out_of_band
returns-in-Some c =
    let a = c.args in
    let ended = c.completes.ensures in
    record { rule = λ l x. pending_does (ends_out_of_band codes) (lent a.t a.text.now l) c.in-Some.is (ended.rule (lent a.t a.text.now l) l x) }

pub returns : goal.returns
unfolding ends_out_of_band
returns c =
    let a = c.args in
    record { rule = λ l x. idle_does (ends_out_of_band codes) (lent a.t a.text.now l) c.in_default.is (still_does _ x _) }
