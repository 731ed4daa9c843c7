use Rattle.std.proofs.Common.{rules}
use Rattle.line.proofs.SentMessages.{sent_does}
use Rattle.line.proofs.Work.initiates.Goals as goal

pub returns : goal.returns
returns c =
    let e = c.sent_up_to.ensures in
    let puts = c.put_initiate.ensures in
    record { rule = λ l t. sent_does c.args.self _ (search rules) e l t }
