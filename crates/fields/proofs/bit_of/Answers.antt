use Rattle.std.proofs.Common.{rules}
use Rattle.rules.specs.Choice.{bit, pick}
use Rattle.fields.proofs.bit_of.Goals as goal

pub returns : goal.returns
unfolding bit pick
returns c = search rules
