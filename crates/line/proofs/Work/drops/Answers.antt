use Rattle.rules.specs.Arrival.{drops}
use Rattle.line.proofs.Turns.{then_does, told_does}
use Rattle.line.proofs.ArrivalLaws.{count_does}
use Rattle.line.proofs.Work.drops.Goals as goal

pub returns : goal.returns
unfolding drops
returns c =
    let belled = c.put-belled in
    let n = c.one_more-belled.ensures in
    record { rule = λ k l m. told_does _ (then_does (belled.ensures.rule l m) (count_does belled.result _ n l _ m)) }
