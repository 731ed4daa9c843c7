use Rattle.line.proofs.TokenBytes.{remains_is}
use Rattle.line.proofs.Typed.has_more_data.Goals as goal

pub returns : goal.returns
returns c = λ keys. remains_is c.args.self c.requires c.is_held.ensures keys
