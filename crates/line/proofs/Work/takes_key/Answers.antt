use Rattle.line.proofs.PendingRead.{has_taken}
use Rattle.line.proofs.Work.takes_key.Goals as goal

pub returns : goal.returns
returns c = has_taken c.args.read c.args.self _ c.requires.keys_len_nonzero
