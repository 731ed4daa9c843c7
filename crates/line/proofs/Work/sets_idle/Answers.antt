use Rattle.rules.specs.Steps.{sets_idle}
use Rattle.line.proofs.FlowChanges.{read_does}
use Rattle.line.proofs.FlowChanges.{idle_same}
use Rattle.line.proofs.Work.sets_idle.Goals as goal

pub returns : goal.returns
unfolding sets_idle
returns c =
    let next = c.with_idle-next in
    let read = c.with_read.ensures in record { rule = λ l x m. read_does c.args.self next.result read l (idle_same c.args.r next.ensures l) x m }
