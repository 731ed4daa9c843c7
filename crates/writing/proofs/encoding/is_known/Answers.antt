use Rattle.std.proofs.Common.{rules}
use Rattle.rules.specs.Choice.{within}
use Rattle.rules.specs.Messages.Codec.{defined_kind}
use Rattle.writing.proofs.encoding.is_known.Goals as goal

pub returns : goal.returns
unfolding defined_kind within
returns c = search rules
