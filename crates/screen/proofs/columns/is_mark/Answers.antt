use mathlib.Core.Path.{refl}
use Rattle.rules.specs.Choice.{within}
use Rattle.rules.specs.Screen.{is_mark}
use Rattle.screen.proofs.columns.is_mark.Goals as goal

pub returns : goal.returns
unfolding is_mark within
returns c = refl
