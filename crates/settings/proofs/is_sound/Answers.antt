use mathlib.Core.Path.{◌≡◌, sym, ap, ap₂, ◌∙◌}
use mathlib.Core.Bool.{false, ◌&&◌}
use Rattle.rules.specs.Messages.Layout.{byte_at}
use Rattle.rules.specs.Settings.{is_form, are_whole, sound_switches, sound_pairs, sound_set, sound_largest_read, is_sound}
use Rattle.settings.proofs.Formed.{formed}
use Rattle.settings.proofs.is_sound.Goals as goal

pub returns-in_default : goal.returns-in_default
unfolding is_sound
returns-in_default c =
    let none : is_form (byte_at c.args.«record».now 0) ≡ false = ap is_form (sym c.byte_at.ensures) ∙ c.in_default.ensures in
    rw none

pub returns : goal.returns
unfolding is_sound
returns c =
    let form = sym c.in-Some.ensures ∙ c.byte_at.ensures in
    λ i.
    (sym (formed c.in-Some.form) ∙ ap is_form form) i &&
    (c.are_whole.ensures ∙ ap (are_whole 4) c.behind_form.ensures) i &&
    (c.switches.ensures ∙ ap sound_switches c.section_in.ensures) i &&
    (c.pairs.ensures ∙ ap (sound_pairs 0) c.section_in-2.ensures) i &&
    (c.set.ensures ∙ ap sound_set c.section_in-3.ensures) i &&
    (c.largest_read.ensures ∙ ap₂ sound_largest_read form c.section_in-4.ensures) i
