use mathlib.Core.Path.{refl}
use Rattle.rules.specs.Calls.{carries_write}
use Rattle.line.proofs.refusals.carries_write.Goals as goal

pub returns : goal.returns
unfolding carries_write
returns c = λ s. refl
