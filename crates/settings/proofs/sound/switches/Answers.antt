use mathlib.Core.Path.{sym, ◌∙◌}
use mathlib.Core.Bool.{◌&&◌, ◌||◌}
use lib.ListN.{length}
use lib.Dec.{eqb}
use Rattle.rules.specs.Settings.{sound_switches}
use Rattle.rules.proofs.Choice.{empty_length}
use Rattle.settings.proofs.sound.switches.Goals as goal

pub returns : goal.returns
unfolding sound_switches
returns c =
    let s = c.args.section.now in
    λ i.
    (c.is_empty.ensures ∙ sym (empty_length s)) i ||
    eqb (length s) 12 &&
    c.is_switch.ensures i &&
    c.is_switch-2.ensures i &&
    c.is_switch-3.ensures i &&
    c.is_switch-4.ensures i
