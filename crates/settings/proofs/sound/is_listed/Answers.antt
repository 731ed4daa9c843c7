use mathlib.Core.Path.{refl}
use Rattle.rules.specs.Settings.{is_listed}
use Rattle.rules.specs.Characteristics.{is_deferred_clear}
use Rattle.rules.specs.Choice.{within}
use Rattle.settings.proofs.sound.is_listed.Goals as goal

pub returns : goal.returns
unfolding is_listed within is_deferred_clear
returns c = refl
