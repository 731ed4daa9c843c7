use Rattle.std.proofs.Common.{rules}
use Rattle.line.proofs.SentMessages.{sent_does}
use Rattle.line.proofs.Work.send.Goals as goal

pub returns : goal.returns
returns c =
    record { rule = λ x k. let puts = c.put_framed.ensures.sent x k in sent_does c.args.self x (search rules) c.sent_up_to.ensures }
