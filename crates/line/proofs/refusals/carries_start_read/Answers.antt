use mathlib.Core.Path.{refl}
use Rattle.rules.specs.Calls.{carries_start_read}
use Rattle.message.specs.Found.{start_read_in}
use Rattle.line.proofs.refusals.carries_start_read.Goals as goal

pub returns : goal.returns
unfolding carries_start_read start_read_in
returns c = λ s. refl
