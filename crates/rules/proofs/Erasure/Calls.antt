-- Erasure of a call, and of a list of calls run from a fresh line.
use mathlib.Core.Path.{◌≡◌, refl}
use Prim.Native.Nat.{ℕ}
use mathlib.Core.List.{List, [], ◌∷◌, map}
use mathlib.Core.Option
use mathlib.Core.Option.{Option, none, some}
use Rattle.rules.specs.Choice.{first_row_answer}
use Rattle.rules.specs.Numbers.{accepted}
use Rattle.rules.specs.Messages.Forms.{Message}
use Rattle.rules.specs.Messages.Codec.{Outcome, refused, sound, read}
use Rattle.rules.specs.State.{Characters, Reading, State, fresh}
use Rattle.rules.specs.Turns.{Rule, still}
use Rattle.rules.specs.Calls.{Event, key, step, tick, message, load, Call, Answer}
use Rattle.rules.specs.Calls.{is_pending, is_timely, passes_test, is_unsound, carries_questions, is_carried_by, carries, refusals, received}
use Rattle.rules.specs.Calls.{is_lent, refuses, does, answers_message, answers_load, keystroke, answers, answer, run_from, run}
use Rattle.rules.proofs.Choice.{pick_both}
use Rattle.rules.proofs.Erasure.Maps.{Maps, map_reading, map_state, map_event, map_call, map_answer}
use Rattle.rules.proofs.Erasure.Turns.{Erases, erases_then}
use Rattle.rules.proofs.Erasure.Arrival.{erase_arrives}
use Rattle.rules.proofs.Erasure.Steps.{erase_steps, erase_ticks}
use Rattle.rules.proofs.Erasure.Host.{erase_loads, erase_obeys}

module _ {C D : Type 0} {f : C → D} {cs : Characters C} {ds : Characters D} (m : Maps f cs ds) where
  erase_is_pending : (x : Option (Reading C)) → is_pending (Option.map (map_reading f) x) ≡ is_pending x
  unfolding is_pending
  erase_is_pending none = refl
  erase_is_pending (some r) = refl

  erase_is_timely : (kind : ℕ) (s : State C) → is_timely kind (map_state f s) ≡ is_timely kind s
  unfolding is_timely
  erase_is_timely kind s = rw (erase_is_pending s.pending_read)

  erase_is_unsound : (s : State C) (o : Outcome (Message ℕ)) → is_unsound (map_state f s) o ≡ is_unsound s o
  unfolding is_unsound passes_test
  erase_is_unsound s (refused n) = refl
  erase_is_unsound s (sound n) = refl

  erase_carries : (s : State C) (o : Outcome (Message ℕ)) → carries (map_state f s) o ≡ carries s o
  unfolding carries is_carried_by carries_questions
  erase_carries s (refused n) = refl
  erase_carries s (sound n) = refl

  erase_received : (s : State C) (bytes : List ℕ) → received (map_state f s) bytes ≡ received s bytes
  unfolding received refusals
  erase_received s bytes = rw (erase_is_timely _ s, erase_is_unsound s (read bytes), erase_carries s (read bytes))

  erase_refuses : (n : ℕ) (s : State C) → map_answer f (refuses n s) ≡ refuses n (map_state f s)
  unfolding refuses still
  erase_refuses n s = refl

  erase_does : {F : Rule C} {G : Rule D} → Erases f F G → (s : State C) → map_answer f (does F s) ≡ does G (map_state f s)
  unfolding does
  erase_does p s = λ i. record { number = accepted; turn = p.at s i }

  erase_answers_message : (o : Outcome (Message ℕ)) (s : State C) → map_answer f (answers_message cs o s) ≡ answers_message ds o (map_state f s)
  unfolding answers_message
  erase_answers_message (refused n) s = erase_refuses n s
  erase_answers_message (sound n) s = erase_does (erase_obeys m n) s

  erase_answers_load : (own site : List ℕ) (s : State C) → map_answer f (answers_load own site s) ≡ answers_load own site (map_state f s)
  unfolding answers_load first_row_answer
  erase_answers_load own site s =
      pick_both (λ (F : State C → Answer C) (G : State D → Answer D). map_answer f (F s) ≡ G (map_state f s)) _
      (erase_refuses _ s)
      (erase_does (erase_loads m own site) s)

  erase_keystroke : (c : C) → Erases f (keystroke cs c) (keystroke ds (f c))
  unfolding keystroke
  erase_keystroke c = erases_then (erase_arrives m c) (erase_steps m)

  erase_answers : (e : Event C) (s : State C) → map_answer f (answers cs e s) ≡ answers ds (map_event f e) (map_state f s)
  unfolding answers
  erase_answers (key c) s = erase_does (erase_keystroke c) s
  erase_answers step s = erase_does (erase_steps m) s
  erase_answers tick s = erase_does (erase_ticks m) s
  erase_answers (message bytes) s = rw (erase_received s bytes) (erase_answers_message (received s bytes) s)
  erase_answers (load own site) s = erase_answers_load own site s

  erase_is_lent : (e : Event C) → is_lent (map_event f e) ≡ is_lent e
  erase_is_lent (key c) = refl
  erase_is_lent step = refl
  erase_is_lent tick = refl
  erase_is_lent (message bytes) = refl
  erase_is_lent (load own site) = refl

  pub erase_answer : (c : Call C) (s : State C) → map_answer f (answer cs c s) ≡ answer ds (map_call f c) (map_state f s)
  unfolding answer first_row_answer
  erase_answer c s =
      rw (erase_is_lent c.event)
      (pick_both (λ (F : State C → Answer C) (G : State D → Answer D). map_answer f (F s) ≡ G (map_state f s)) _
      (erase_refuses _ s)
      (erase_answers c.event s))

  pub erase_run_from : (s : State C) (calls : List (Call C)) →
      map (map_answer f) (run_from cs s calls) ≡ run_from ds (map_state f s) (map (map_call f) calls)
  unfolding run_from
  erase_run_from s [] = refl
  erase_run_from s (c ∷ calls) = rw (← erase_answer c s, ← erase_run_from (answer cs c s).turn.state calls)

  pub erase_run : (calls : List (Call C)) → map (map_answer f) (run cs calls) ≡ run ds (map (map_call f) calls)
  unfolding run fresh
  erase_run calls = erase_run_from fresh calls
