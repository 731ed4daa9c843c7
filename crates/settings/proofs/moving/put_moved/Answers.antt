use mathlib.Core.Path.{sym, ap}
use mathlib.Core.List.{[], ◌∷◌, append-nil}
use Rattle.rules.specs.Choice.{joined}
use Rattle.rules.specs.Settings.Moving.{moved_sections, moved}
use Rattle.areas.proofs.Putting.{equals, joins}
use Rattle.settings.proofs.moving.put_moved.Goals as goal

pub returns : goal.returns
unfolding moved moved_sections joined
returns c =
    joins (equals (ap (λ b. b ∷ []) c.code.ensures) c.put_byte.ensures)
    (joins c.put_section.ensures
    (joins c.put_section-2.ensures
    (joins c.put_section-3.ensures
    (equals (sym (append-nil _)) c.put_largest_read.ensures))))
