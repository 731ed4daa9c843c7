use Rattle.std.proofs.Common.{rules}
use Rattle.rules.specs.Choice.{pick}
use Rattle.replay.specs.Digits.{digit_of}
use Rattle.replay.proofs.hex.digit_of.Goals as goal

pub returns-then-value-lt-TEN : goal.returns-then-value-lt-TEN
unfolding digit_of pick
returns-then-value-lt-TEN c = search rules

pub returns-else-value-lt-TEN : goal.returns-else-value-lt-TEN
unfolding digit_of pick
returns-else-value-lt-TEN c = search rules
