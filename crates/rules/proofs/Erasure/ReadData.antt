-- Erasure of the rules of ReadData.
use mathlib.Core.Path.{◌≡◌, refl}
use Prim.Native.Nat.{ℕ}
use mathlib.Core.List.{map-map}
use mathlib.Core.Option.{Option, none, some, map}
use lib.ListN.{length-map}
use Rattle.rules.specs.Messages.Forms.{Message}
use Rattle.rules.specs.State.{Characters, Reading, State, Typed}
use Rattle.rules.specs.ReadData.{waiting_count, checks_input, more_data, read_data_of, loses_partial, sends_read_data, ends_read, completes, unreads_while, unreads}
use Rattle.rules.specs.Calls.{map_text}
use Rattle.rules.proofs.Erasure.Maps.{Maps, map_typed, map_reading, map_state}
use Rattle.rules.proofs.Erasure.Lists.{is_empty_map, codes_same}
use Rattle.rules.proofs.Erasure.Turns.{Erases, erases_here, erases_still, erases_sends, erases_plain, erases_tells, erases_changes}
use Rattle.rules.proofs.Erasure.Turns.{erases_then, erases_only}

module _ {C D : Type 0} {f : C → D} {cs : Characters C} {ds : Characters D} (m : Maps f cs ds) where
  erase_waiting_count : (t : Typed C) → waiting_count (map_typed f t) ≡ waiting_count t
  unfolding waiting_count
  erase_waiting_count t = simp length-map

  pub erase_checks_input : Erases f checks_input checks_input
  unfolding checks_input
  erase_checks_input = record { at = λ s. erases_here s (erases_plain _ (rw (erase_waiting_count s.typed))) }

  erase_more_data : (s : State C) → more_data ds (map_state f s) ≡ more_data cs s
  unfolding more_data
  erase_more_data s = simp (is_empty_map, codes_same m)

  erase_read_data_of : (code ending : ℕ) (r : Reading C) (s : State C) →
      map_text f (read_data_of cs code ending r s) ≡ read_data_of ds code ending (map_reading f r) (map_state f s)
  unfolding map_text read_data_of
  erase_read_data_of code ending r s = simp (erase_more_data s, length-map)

  erase_loses_partial : Erases f (loses_partial cs) (loses_partial ds)
  unfolding loses_partial
  erase_loses_partial =
      record {
        at = λ s.
            erases_here s
            (erases_only (simp (codes_same m)) (erases_then (erases_tells _ (simp map-map)) (erases_changes _ _ (λ s. refl))));
      }

  pub erase_completes : (code ending : ℕ) (r : Reading C) → Erases f (completes cs code ending r) (completes ds code ending (map_reading f r))
  unfolding completes sends_read_data ends_read
  erase_completes code ending r =
      erases_then erase_loses_partial
      (erases_then (record { at = λ s. erases_here s (erases_sends _ (erase_read_data_of code ending r s)) })
      (erases_changes _ _ (λ s. refl)))

  erase_unreads_while : (x : Option (Reading C)) (n : Message ℕ) →
      Erases f (unreads_while cs x n) (unreads_while ds (map (map_reading f) x) n)
  unfolding unreads_while
  erase_unreads_while none n = erases_still
  erase_unreads_while (some r) n = record { at = λ s. erases_here s (erases_only (simp is_empty_map) (erase_completes _ _ r)) }

  pub erase_unreads : (n : Message ℕ) → Erases f (unreads cs n) (unreads ds n)
  unfolding unreads
  erase_unreads n = record { at = λ s. erases_here s (erase_unreads_while s.pending_read n) }
