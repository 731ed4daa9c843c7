-- Erasure of the rules of Steps: one step, and the tick.
use mathlib.Core.Path.{◌≡◌, refl}
use Prim.Native.Nat.{ℕ}
use mathlib.Core.List.{List, [], ◌∷◌, map, map-append}
use mathlib.Core.Option
use mathlib.Core.Option.{Option, none, some}
use lib.ListN.{length-map}
use Rattle.rules.specs.State.{Characters, Key, Reading, with_idle}
use Rattle.rules.specs.Turns.{edited}
use Rattle.rules.specs.ReadData.{completes}
use Rattle.rules.specs.Steps.{appended, is_edit_key, is_token_start, token_code, ends_by_token, takes_token, adds_to_token, echoes_if, takes_data, echoes_terminator_if, terminates}
use Rattle.rules.specs.Steps.{underflows, erases, erases_all, shows_again, edits, takes_plain, raised_by, takes, takes_first}
use Rattle.rules.specs.Steps.{steps_while, steps, sets_idle, idles, ticks_while, ticks}
use Rattle.rules.proofs.Erasure.Maps.{Maps, map_key, map_reading}
use Rattle.rules.proofs.Erasure.Lists.{is_empty_map, map_pick, codes_same}
use Rattle.rules.proofs.Erasure.Turns.{Erases, erases_here, erases_still, erases_writes, erases_tells, erases_changes, erases_reading}
use Rattle.rules.proofs.Erasure.Turns.{erases_then, erases_pick, erases_only}
use Rattle.rules.proofs.Erasure.ReadData.{erase_completes}
use Rattle.rules.proofs.Erasure.Editing.{erase_end_of, erase_deletes, erase_redisplays}

module _ {C D : Type 0} {f : C → D} {cs : Characters C} {ds : Characters D} (m : Maps f cs ds) where
  erase_appended : (xs : List C) (r : Reading C) → map_reading f (appended xs r) ≡ appended (map f xs) (map_reading f r)
  unfolding appended
  erase_appended xs r = simp map-append

  -- a read completes with more in its input
  erase_completes_with : (code ending : ℕ) (xs : List C) (r : Reading C) →
      Erases f (completes cs code ending (appended xs r)) (completes ds code ending (appended (map f xs) (map_reading f r)))
  erase_completes_with code ending xs r = rw (← erase_appended xs r) (erase_completes m code ending (appended xs r))

  erase_token_code : (xs : List C) → token_code ds (map f xs) ≡ token_code cs xs
  unfolding token_code
  erase_token_code xs = simp (codes_same m)

  erase_ends_by_token : (r : Reading C) → Erases f (ends_by_token cs r) (ends_by_token ds (map_reading f r))
  unfolding ends_by_token
  erase_ends_by_token r =
      record {
        at = λ s.
            erases_here s
            (erases_then (erases_changes _ _ (λ s. refl))
            (rw (erase_token_code s.typed.token, length-map) (erase_completes_with _ _ s.typed.token r)));
      }

  erase_takes_token : (r : Reading C) → Erases f (takes_token cs r) (takes_token ds (map_reading f r))
  unfolding takes_token
  erase_takes_token r =
      record {
        at = λ s.
            erases_here s (erases_pick (simp (erase_end_of m r, length-map)) (erase_ends_by_token r) (erase_completes m _ _ r));
      }

  erase_adds_to_token : (c : C) (r : Reading C) → Erases f (adds_to_token cs c r) (adds_to_token ds (f c) (map_reading f r))
  unfolding adds_to_token
  erase_adds_to_token c r =
      erases_then (erases_tells _ refl)
      (erases_then (erases_changes _ _ (λ s. simp map-append))
      (record { at = λ s. erases_here s (erases_only (simp (codes_same m)) (erase_takes_token r)) }))

  erase_takes_data : (c : C) (r : Reading C) → Erases f (takes_data cs c r) (takes_data ds (f c) (map_reading f r))
  unfolding takes_data echoes_if
  erase_takes_data c r =
      erases_then (erases_reading _ (erase_appended (c ∷ []) r))
      (erases_then (record { at = λ s. erases_here s (erases_writes (rw m.code)) })
      (erases_only (rw (erase_end_of m r)) (erase_completes_with _ _ (c ∷ []) r)))

  erase_terminates : (c : C) (r : Reading C) → Erases f (terminates cs c r) (terminates ds (f c) (map_reading f r))
  unfolding terminates echoes_terminator_if
  erase_terminates c r =
      erases_then (record { at = λ s. erases_here s (erases_writes (rw m.code)) }) (erase_completes_with _ _ (c ∷ []) r)

  erase_underflows : (c : C) (r : Reading C) → Erases f (underflows cs c r) (underflows ds (f c) (map_reading f r))
  unfolding underflows
  erase_underflows c r =
      erases_pick refl (erase_completes_with _ _ (c ∷ []) r)
      (erases_then (erases_tells _ refl) (erases_only refl (erases_writes refl)))

  erase_erases : (left : ℕ) (c : C) (r : Reading C) → Erases f (erases cs left c r) (erases ds left (f c) (map_reading f r))
  unfolding erases
  erase_erases left c r =
      erases_pick (simp is_empty_map) (erase_underflows c r)
      (erases_then (erases_tells _ refl) (erase_deletes m edited edited (λ c. refl) left r))

  erase_erases_all : (c : C) (r : Reading C) → Erases f (erases_all cs c r) (erases_all ds (f c) (map_reading f r))
  unfolding erases_all
  erase_erases_all c r = erases_then (erases_tells _ refl) (erase_deletes m edited edited (λ c. refl) 0 r)

  erase_shows_again : (c : C) (r : Reading C) → Erases f (shows_again cs c r) (shows_again ds (f c) (map_reading f r))
  unfolding shows_again
  erase_shows_again c r = erases_then (erases_tells _ refl) (erase_redisplays m r)

  erase_edits : (c : C) (r : Reading C) → Erases f (edits cs c r) (edits ds (f c) (map_reading f r))
  unfolding edits
  erase_edits c r =
      erases_pick (rw m.code) (rw length-map (erase_erases _ c r))
      (erases_pick (rw m.code) (rw (codes_same m) (erase_erases _ c r))
      (erases_pick (rw m.code) (erase_erases_all c r)
      (erase_shows_again c r)))

  erase_takes_plain : (c : C) (r : Reading C) → Erases f (takes_plain cs c r) (takes_plain ds (f c) (map_reading f r))
  unfolding takes_plain is_edit_key
  erase_takes_plain c r =
      erases_pick (rw m.code) (erase_terminates c r)
      (erases_pick (rw m.code) (erase_edits c r)
      (erase_takes_data c r))

  erase_raised_by : (r : Reading C) (c : C) → f (raised_by cs r c) ≡ raised_by ds (map_reading f r) (f c)
  unfolding raised_by
  erase_raised_by r c = simp (map_pick f, m.raise)

  erase_takes : (k : Key C) (r : Reading C) → Erases f (takes cs k r) (takes ds (map_key f k) (map_reading f r))
  unfolding takes is_token_start
  erase_takes k r =
      record {
        at = λ s.
            erases_here s
            (erases_pick (simp (codes_same m)) (erase_adds_to_token k.char r)
            (erases_pick refl (erase_takes_data k.char r)
            (erases_pick (rw m.code) (erase_adds_to_token k.char r)
            (rw (← erase_raised_by r k.char) (erase_takes_plain (raised_by cs r k.char) r)))));
      }

  erase_takes_first : (ks : List (Key C)) (r : Reading C) → Erases f (takes_first cs ks r) (takes_first ds (map (map_key f) ks) (map_reading f r))
  unfolding takes_first
  erase_takes_first [] r = erases_only refl (erase_completes m _ _ r)
  erase_takes_first (k ∷ ks) r =
      erases_then (erases_tells _ refl) (erases_then (erases_changes _ _ (λ s. refl)) (erase_takes k (with_idle 0 r)))

  erase_steps_while : (x : Option (Reading C)) → Erases f (steps_while cs x) (steps_while ds (Option.map (map_reading f) x))
  unfolding steps_while
  erase_steps_while none = erases_still
  erase_steps_while (some r) =
      record {
        at = λ s. erases_here s (erases_pick (simp (codes_same m)) (erase_takes_token r) (erase_takes_first s.typed.type_ahead r));
      }

  pub erase_steps : Erases f (steps cs) (steps ds)
  unfolding steps
  erase_steps = record { at = λ s. erases_here s (erases_only refl (erase_steps_while s.pending_read)) }

  erase_idles : (r : Reading C) → Erases f (idles cs r) (idles ds (map_reading f r))
  unfolding idles sets_idle
  erase_idles r = erases_pick refl (erase_completes m _ _ r) (erases_reading _ refl)

  erase_ticks_while : (x : Option (Reading C)) → Erases f (ticks_while cs x) (ticks_while ds (Option.map (map_reading f) x))
  unfolding ticks_while
  erase_ticks_while none = erases_still
  erase_ticks_while (some r) =
      record { at = λ s. erases_here s (erases_only (simp (is_empty_map, codes_same m)) (erase_idles r)) }

  pub erase_ticks : Erases f (ticks cs) (ticks ds)
  unfolding ticks
  erase_ticks = record { at = λ s. erases_here s (erase_ticks_while s.pending_read) }
