-- Every call from a bounded line, and every list of calls from a fresh one.
use mathlib.Core.Path.{◌≡◌, refl, subst}
use Prim.Native.Nat.{ℕ, ◌<◌}
use native.Mathlib.Omega.{arith}
use mathlib.Core.Bool.{true}
use mathlib.Core.List.{List, [], ◌∷◌}
use borrow.Author.Tests.{ltb-true, not-false}
use Rattle.rules.specs.Choice.{first_row_answer, all_are}
use Rattle.rules.specs.Messages.Forms.{Message}
use Rattle.rules.specs.Messages.Codec.{Outcome, refused, sound, read, all_bytes}
use Rattle.rules.specs.State.{State, codes, fresh_host, fresh_terminal, fresh}
use Rattle.rules.specs.StartRead.{universal}
use Rattle.rules.specs.Characteristics.{is_deferred_clear}
use Rattle.rules.specs.Arrival.{arrives}
use Rattle.rules.specs.Calls.{Event, key, step, tick, message, load, Call, Answer, is_carried_by, carries, refusals, received}
use Rattle.rules.specs.Calls.{refuses, does, answers_message, answers_load, answers, answer, message_bytes, run_from, run}
use Rattle.rules.specs.Bounds.{is_attribute, BoundedRead, Bounded, is_byte_event, Within, AllWithin}
use Rattle.rules.proofs.Choice.{pick_case, pick_second, halves, all_cons}
use Rattle.rules.proofs.Outcomes.{refused-sound}
use Rattle.rules.proofs.Bounds.Sent.{area_meant, read_sent}
use Rattle.rules.proofs.Bounds.Turns.{Steady, Fine, fine, step_bytes, answer_area, still_good}
use Rattle.rules.proofs.Bounds.Steps.{steps_fine, ticks_fine}
use Rattle.rules.proofs.Bounds.Keystroke.{arrives_leaves, keystroke_fine}
use Rattle.rules.proofs.Bounds.Host.{obeys_fine}
use Rattle.rules.proofs.Bounds.Settings.{loads_fine}

pub fresh_bounded : Bounded fresh
unfolding fresh fresh_host fresh_terminal universal all_bytes all_are is_attribute is_deferred_clear
fresh_bounded =
    record {
      host = record { table = refl; attributes = refl; set_length = omega arith; set_bytes = refl; largest_read = omega arith };
      terminal = record { column = omega arith; line = omega arith; dropped = omega arith };
      typed = record { type_ahead = omega arith; token = omega arith; key_bytes = refl; token_bytes = refl };
      pending_read = tt;
    }

steady : {s : State ℕ} → Bounded s → Steady BoundedRead s
steady b = record { host = b.host; terminal = b.terminal; typed = b.typed; pending_read = b.pending_read }

bounded : {s : State ℕ} → Steady BoundedRead s → Bounded s
bounded h = record { host = h.host; terminal = h.terminal; typed = h.typed; pending_read = h.pending_read }

-- the line between a key's arrival and its step is bounded
pub arrives_bounded : (c : ℕ) (s : State ℕ) → c < 256 → Bounded s → Bounded (arrives codes c s).state
arrives_bounded c s byte b = bounded (arrives_leaves (steady b) c byte).arrival.state

-- a fine turn is what a call may leave and write
fine_within : (a : Answer ℕ) → Fine a.turn → Within a
unfolding message_bytes
fine_within a g =
    record {
      state = bounded g.state;
      terminal = g.terminal;
      messages = g.messages;
      meant = area_meant a.turn.messages g.fit g.messages;
    }

-- A message that is obeyed was read, and is carried.
module _ (s : State ℕ) where
  pub received-sound : (bytes : List ℕ) (m : Message ℕ) → received s bytes ≡ sound m → (read bytes ≡ sound m) × (is_carried_by s m ≡ true)
  unfolding received refusals first_row_answer carries
  received-sound bytes m e =
      let size = pick_second _ refused-sound e in
      let kind = pick_second _ refused-sound size.1 in
      let time = pick_second _ refused-sound kind.1 in
      let whole = pick_second _ refused-sound time.1 in
      let carried = pick_second _ refused-sound whole.1 in
      (carried.1, subst (λ o. carries s o ≡ true) carried.1 (not-false (carries s (read bytes)) carried.0))

module _ {s : State ℕ} (h : Steady BoundedRead s) where
  refuses_within : (n : ℕ) → Within (refuses n s)
  unfolding refuses
  refuses_within n = fine_within _ (still_good h)

  answers_message_within : (bytes : List ℕ) → all_bytes bytes ≡ true → (o : Outcome (Message ℕ)) → received s bytes ≡ o → Within (answers_message codes o s)
  unfolding answers_message does
  answers_message_within bytes small (refused n) e = refuses_within n
  answers_message_within bytes small (sound m) e =
      let c = received-sound s bytes m e in
      fine_within _ (obeys_fine h m (read_sent bytes m small c.0) c.1)

  answers_load_within : (own site : List ℕ) → all_bytes own ≡ true → all_bytes site ≡ true → Within (answers_load own site s)
  unfolding answers_load first_row_answer does
  answers_load_within own site ours theirs =
      pick_case (λ (f : State ℕ → Answer ℕ). Within (f s)) _ (λ y. refuses_within _) (λ n. fine_within _ (loads_fine own site ours theirs h))

  answers_within : (e : Event ℕ) → is_byte_event e ≡ true → Within (answers codes e s)
  unfolding answers does is_byte_event
  answers_within (key c) byte = fine_within _ (keystroke_fine h c (ltb-true c 256 byte))
  answers_within step byte = fine_within _ (fine step_bytes answer_area (omega arith) (omega arith) (steps_fine h))
  answers_within tick byte = fine_within _ (ticks_fine h)
  answers_within (message bytes) small = answers_message_within bytes small (received s bytes) refl
  answers_within (load own site) small = let h = halves (all_bytes own) (all_bytes site) small in answers_load_within own site h.0 h.1

pub call_within : (c : Call ℕ) (s : State ℕ) → is_byte_event c.event ≡ true → Bounded s → Within (answer codes c s)
unfolding answer first_row_answer
call_within c s byte b =
    pick_case (λ (f : State ℕ → Answer ℕ). Within (f s)) _
    (λ y. refuses_within (steady b) _)
    (λ n. answers_within (steady b) c.event byte)

run_from_within : (cs : List (Call ℕ)) (s : State ℕ) → all_are (λ c. is_byte_event c.event) cs ≡ true → Bounded s → AllWithin (run_from codes s cs)
unfolding run_from
run_from_within [] s bytes b = tt
run_from_within (c ∷ cs) s bytes b =
    let h = all_cons (λ c. is_byte_event c.event) c cs bytes in
    let w = call_within c s h.0 b in
    (w, run_from_within cs (answer codes c s).turn.state h.1 w.state)

pub run_within : (cs : List (Call ℕ)) → all_are (λ c. is_byte_event c.event) cs ≡ true → AllWithin (run codes cs)
unfolding run
run_within cs bytes = run_from_within cs fresh bytes fresh_bounded
