-- Erasure of the rules of Arrival.
use mathlib.Core.Path.{◌≡◌, refl}
use Prim.Native.Nat.{ℕ}
use mathlib.Core.Bool.{Bool}
use mathlib.Core.List.{map-map, map-append}
use mathlib.Core.Option.{Option, none, some, map}
use lib.ListN.{length-map}
use Rattle.rules.specs.State.{Characters, Reading}
use Rattle.rules.specs.Turns.{cleared}
use Rattle.rules.specs.Arrival.{idle_again, keeps, counts_dropped, drops, stores, stores_quoted, quotes, sends_discard_state, unlocks, unlocks_if_discarding, flips_discard, are_controls_off}
use Rattle.rules.specs.Arrival.{Rubbing, rubbing_out, without_rubbing, empties_typed, clears_input, clear_rule, clears_by}
use Rattle.rules.specs.Arrival.{sends_out_of_band, ends_out_of_band, clears_at_once, controlled, by_first_rule, arrives}
use Rattle.rules.proofs.Erasure.Maps.{Maps, map_reading}
use Rattle.rules.proofs.Erasure.Turns.{Erases, erases_here, erases_still, erases_writes, erases_plain, erases_tells, erases_changes}
use Rattle.rules.proofs.Erasure.Turns.{erases_then, erases_pick, erases_only}
use Rattle.rules.proofs.Erasure.ReadData.{erase_completes}
use Rattle.rules.proofs.Erasure.Editing.{erase_deletes, erase_deletes_without_rubbing}

module _ {C D : Type 0} {f : C → D} {cs : Characters C} {ds : Characters D} (m : Maps f cs ds) where
  erase_idle_again : (x : Option (Reading C)) → map (map_reading f) (idle_again x) ≡ idle_again (map (map_reading f) x)
  unfolding idle_again
  erase_idle_again none = refl
  erase_idle_again (some r) = refl

  erase_keeps : (quoted : Bool) (c : C) → Erases f (keeps quoted c) (keeps quoted (f c))
  unfolding keeps
  erase_keeps quoted c = erases_changes _ _ (λ s. simp (map-append, erase_idle_again))

  erase_drops : (c : C) → Erases f (drops c) (drops (f c))
  unfolding drops counts_dropped
  erase_drops c =
      erases_then (erases_tells _ refl) (erases_then (erases_writes refl) (erases_changes _ _ (λ s. refl)))

  erase_stores : (limit : ℕ) (quoted : Bool) (c : C) → Erases f (stores limit quoted c) (stores limit quoted (f c))
  unfolding stores
  erase_stores limit quoted c =
      record { at = λ s. erases_here s (erases_pick (simp length-map) (erase_keeps quoted c) (erase_drops c)) }

  erase_stores_quoted : (c : C) → Erases f (stores_quoted c) (stores_quoted (f c))
  unfolding stores_quoted
  erase_stores_quoted c = erases_then (erases_changes _ _ (λ s. refl)) (erase_stores _ _ c)

  erase_quotes : (c : C) → Erases f (quotes c) (quotes (f c))
  unfolding quotes
  erase_quotes c = erases_then (erases_tells _ refl) (erases_changes _ _ (λ s. refl))

  erase_unlocks : Erases f unlocks unlocks
  unfolding unlocks
  erase_unlocks = erases_changes _ _ (λ s. refl)

  erase_flips_discard : (c : C) → Erases f (flips_discard c) (flips_discard (f c))
  unfolding flips_discard sends_discard_state unlocks_if_discarding
  erase_flips_discard c =
      erases_then (erases_tells _ refl)
      (erases_then (erases_changes _ _ (λ s. refl))
      (erases_then (record { at = λ s. erases_here s (erases_plain _ refl) })
      (record { at = λ s. erases_here s (erases_only refl erase_unlocks) })))

  erase_are_controls_off : (x : Option (Reading C)) → are_controls_off (map (map_reading f) x) ≡ are_controls_off x
  unfolding are_controls_off
  erase_are_controls_off none = refl
  erase_are_controls_off (some r) = refl

  pub erase_empties_typed : Erases f empties_typed empties_typed
  unfolding empties_typed
  erase_empties_typed =
      record { at = λ s. erases_here s (erases_then (erases_tells _ (simp (map-append, map-map))) (erases_changes _ _ (λ s. refl))) }

  erase_clears_input : (rubbing : Rubbing) (x : Option (Reading C)) →
      Erases f (clears_input cs rubbing x) (clears_input ds rubbing (map (map_reading f) x))
  unfolding clears_input
  erase_clears_input rubbing none = erases_still
  erase_clears_input rubbing_out (some r) = erase_deletes m cleared cleared (λ c. refl) 0 r
  erase_clears_input without_rubbing (some r) = erase_deletes_without_rubbing m cleared cleared (λ c. refl) 0 r

  pub erase_clear_rule : (rubbing : Rubbing) → Erases f (clear_rule cs rubbing) (clear_rule ds rubbing)
  unfolding clear_rule
  erase_clear_rule rubbing = erases_then erase_empties_typed (record { at = λ s. erases_here s (erase_clears_input rubbing s.pending_read) })

  erase_clears_by : (c : C) → Erases f (clears_by cs c) (clears_by ds (f c))
  unfolding clears_by
  erase_clears_by c = erases_then (erases_tells _ refl) (erase_clear_rule rubbing_out)

  erase_sends_out_of_band : (c : C) → Erases f (sends_out_of_band cs c) (sends_out_of_band ds (f c))
  unfolding sends_out_of_band
  erase_sends_out_of_band c = erases_then (erases_tells _ refl) (erases_plain _ (rw m.code))

  erase_ends_out_of_band : (x : Option (Reading C)) → Erases f (ends_out_of_band cs x) (ends_out_of_band ds (map (map_reading f) x))
  unfolding ends_out_of_band
  erase_ends_out_of_band none = erases_still
  erase_ends_out_of_band (some r) = erase_completes m _ _ r

  erase_clears_at_once : (c : C) → Erases f (clears_at_once cs c) (clears_at_once ds (f c))
  unfolding clears_at_once
  erase_clears_at_once c =
      erases_then (erase_sends_out_of_band c)
      (erases_then erase_unlocks
      (erases_then (erase_clear_rule without_rubbing) (record { at = λ s. erases_here s (erase_ends_out_of_band s.pending_read) })))

  erase_controlled : (c : C) → Erases f (controlled cs c) (controlled ds (f c))
  unfolding controlled
  erase_controlled c =
      erases_pick (rw m.code) (erase_quotes c)
      (erases_pick (rw m.code) (erase_clears_by c)
      (erases_pick (rw m.code) (erase_flips_discard c)
      (erase_stores _ _ c)))

  erase_by_first_rule : (c : C) → Erases f (by_first_rule cs c) (by_first_rule ds (f c))
  unfolding by_first_rule
  erase_by_first_rule c =
      record {
        at = λ s.
            erases_here s
            (erases_pick refl (erase_stores_quoted c)
            (erases_pick (rw m.code) (erase_sends_out_of_band c)
            (erases_pick (rw m.code) (erase_clears_at_once c)
            (erases_pick (rw (erase_are_controls_off s.pending_read)) (erase_stores _ _ c)
            (erase_controlled c)))));
      }

  pub erase_arrives : (c : C) → Erases f (arrives cs c) (arrives ds (f c))
  unfolding arrives
  erase_arrives c =
      record {
        at = λ s.
            erases_here s
            (erases_then (erases_tells _ (rw m.code)) (erases_pick refl (erase_by_first_rule c) (erase_stores _ _ c)));
      }
