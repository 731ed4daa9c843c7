use mathlib.Core.Bool.{◌&&◌}
use lib.Dec.{eqb, ltb}
use Rattle.rules.specs.Settings.{is_switch}
use Rattle.settings.proofs.sound.is_switch.Goals as goal

pub returns : goal.returns
unfolding is_switch
returns c = λ i. eqb (c.word_at.ensures i) c.args.selector && ltb (c.byte_at.ensures i) 2
