use Rattle.line.proofs.TokenBytes.{partial_is}
use Rattle.line.proofs.Typed.is_partial.Goals as goal

pub returns : goal.returns
returns c = partial_is c.args.self c.requires c.is_held.ensures
