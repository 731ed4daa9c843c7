use Rattle.line.proofs.WriteLaws.{affix_some}
use Rattle.line.proofs.write.has_affix.Goals as goal

pub returns : goal.returns
returns c = affix_some c.args.code
