-- Erasure of what acceptance of a Start Read does.
use mathlib.Core.Path.{◌≡◌, refl}
use Prim.Native.Nat.{ℕ}
use mathlib.Core.List.{map-map}
use Rattle.rules.specs.Messages.Forms.{Message}
use Rattle.rules.specs.State.{Characters, Reading, State}
use Rattle.rules.specs.StartRead.Acceptance.{shown_prompt, data_behind, hides_input, opened_terms, opened_read, remembers_set, clears_first, feeds_line, auto_prompts, completes_if_full, begins, starts_read}
use Rattle.rules.proofs.Erasure.Maps.{Maps, map_reading, map_state}
use Rattle.rules.proofs.Erasure.Turns.{Erases, erases_here, erases_writes, erases_changes, erases_then, erases_only}
use Rattle.rules.proofs.Erasure.ReadData.{erase_completes}
use Rattle.rules.proofs.Erasure.Editing.{erase_displays}
use Rattle.rules.proofs.Erasure.Arrival.{erase_empties_typed}

module _ {C D : Type 0} {f : C → D} {cs : Characters C} {ds : Characters D} (m : Maps f cs ds) (n : Message ℕ) where
  erase_opened_read : (s : State C) → map_reading f (opened_read cs n s) ≡ opened_read ds n (map_state f s)
  unfolding opened_read data_behind hides_input opened_terms shown_prompt
  erase_opened_read s = simp (map-map, m.given)

  erase_remembers_set : Erases f (remembers_set cs n) (remembers_set ds n)
  unfolding remembers_set
  erase_remembers_set = erases_only refl (erases_changes _ _ (λ s. refl))

  erase_begins : (r : Reading C) → Erases f (begins cs n r) (begins ds n (map_reading f r))
  unfolding begins clears_first feeds_line auto_prompts completes_if_full
  erase_begins r =
      erases_then (erases_only refl (erase_empties_typed m))
      (erases_then (record { at = λ s. erases_here s (erases_only refl (erases_writes refl)) })
      (erases_then (record { at = λ s. erases_here s (erases_only refl (erases_writes refl)) })
      (erases_then (erase_displays m r)
      (erases_only refl (erase_completes m _ _ r)))))

  pub erase_starts_read : Erases f (starts_read cs n) (starts_read ds n)
  unfolding starts_read
  erase_starts_read =
      record {
        at = λ s. erases_here s (erases_then (rw (← erase_opened_read s) (erase_begins (opened_read cs n s))) erase_remembers_set);
      }
