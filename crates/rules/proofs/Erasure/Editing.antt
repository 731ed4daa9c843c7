-- Erasure of the rules of Editing.
use mathlib.Core.Path.{◌≡◌, refl}
use Prim.Native.Nat.{ℕ}
use mathlib.Core.List.{map-map}
use lib.ListN.{length-map}
use Rattle.rules.specs.State.{Characters, Reading}
use Rattle.rules.specs.Turns.{Fate}
use Rattle.rules.specs.Editing.{end_of, hidden_count, shortened, deletes_without_rubbing, displayed, rub_out_bytes, deletes, displays_data, displays, redisplays}
use Rattle.rules.proofs.Erasure.Maps.{Maps, map_reading, map_fate}
use Rattle.rules.proofs.Erasure.Lists.{map-take, map-drop, codes_same}
use Rattle.rules.proofs.Erasure.Turns.{Erases, erases_here, erases_writes, erases_tells, erases_reading, erases_then}

module _ {C D : Type 0} {f : C → D} {cs : Characters C} {ds : Characters D} (m : Maps f cs ds) where
  pub erase_end_of : (r : Reading C) → end_of (map_reading f r) ≡ end_of r
  unfolding end_of
  erase_end_of r = simp length-map

  erase_shortened : (left : ℕ) (r : Reading C) → map_reading f (shortened left r) ≡ shortened left (map_reading f r)
  unfolding shortened
  erase_shortened left r = simp map-take

  erase_displayed : (r : Reading C) → displayed ds (map_reading f r) ≡ displayed cs r
  unfolding displayed hidden_count
  erase_displayed r = simp (codes_same m)

  erase_rub_out_bytes : (left : ℕ) (r : Reading C) → rub_out_bytes cs left r ≡ rub_out_bytes ds left (map_reading f r)
  unfolding rub_out_bytes hidden_count
  erase_rub_out_bytes left r = rw (erase_displayed r)

  -- deleting, over any fate that the map carries to a fate
  module _ (fate : C → Fate C) (fate' : D → Fate D) (same : (c : C) → map_fate f (fate c) ≡ fate' (f c)) (left : ℕ) (r : Reading C) where
    pub erase_deletes_without_rubbing : Erases f (deletes_without_rubbing fate left r) (deletes_without_rubbing fate' left (map_reading f r))
    unfolding deletes_without_rubbing
    erase_deletes_without_rubbing = erases_then (erases_tells _ (simp (← map-drop, map-map, same))) (erases_reading _ (erase_shortened left r))

    pub erase_deletes : Erases f (deletes cs fate left r) (deletes ds fate' left (map_reading f r))
    unfolding deletes
    erase_deletes = erases_then (erases_writes (erase_rub_out_bytes left r)) erase_deletes_without_rubbing

  pub erase_displays : (r : Reading C) → Erases f (displays cs r) (displays ds (map_reading f r))
  unfolding displays displays_data
  erase_displays r =
      erases_then (erases_writes refl)
      (record { at = λ s. erases_here s (erases_then (erases_reading _ refl) (erases_writes (rw (erase_displayed r)))) })

  pub erase_redisplays : (r : Reading C) → Erases f (redisplays cs r) (redisplays ds (map_reading f r))
  unfolding redisplays
  erase_redisplays r = erases_then (erases_writes refl) (erase_displays r)
