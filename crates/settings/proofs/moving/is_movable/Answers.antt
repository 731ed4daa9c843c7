use mathlib.Core.Path.{◌∙◌}
use mathlib.Core.Bool.{◌&&◌}
use lib.Dec.{eqb}
use Rattle.rules.specs.Settings.Moving.{is_movable}
use Rattle.settings.proofs.moving.is_movable.Goals as goal

pub returns : goal.returns
unfolding is_movable
returns c = λ i. c.is_sound.ensures i && eqb (c.byte_at.ensures i) ((c.code.ensures ∙ c.other.ensures) i)
