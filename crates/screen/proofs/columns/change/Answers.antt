use native.Mathlib.Omega.{arith}
use Rattle.rules.specs.Screen.{change}
use Rattle.screen.proofs.columns.change.Goals as goal

pub returns : goal.returns
unfolding change
returns c = omega arith
