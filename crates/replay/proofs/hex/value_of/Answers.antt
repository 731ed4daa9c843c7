use Rattle.std.proofs.Common.{rules}
use Rattle.rules.specs.Choice.{pick, within}
use Rattle.replay.specs.Digits.{value_of}
use Rattle.replay.proofs.hex.value_of.Goals as goal

pub returns : goal.returns
unfolding value_of pick within
returns c = search rules
