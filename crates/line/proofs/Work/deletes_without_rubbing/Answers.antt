use Rattle.rules.specs.Editing.{deletes_without_rubbing}
use Rattle.line.proofs.Turns.{told_does}
use Rattle.line.proofs.FlowChanges.{read_does}
use Rattle.line.specs.With.{lent}
use Rattle.line.proofs.Work.deletes_without_rubbing.Goals as goal

pub returns : goal.returns
unfolding deletes_without_rubbing
returns c =
    let next = c.shortened-next in
    let short = next.ensures in
    let read = c.with_read.ensures in record { rule = λ fate text l x m. told_does _ (read_does c.args.self next.result read (lent c.args.t text l) (short.same text l) x m) }
