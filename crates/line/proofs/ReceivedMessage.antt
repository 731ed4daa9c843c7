-- A host message's call: its refusals, and from a message that was read and is carried to one accepted.
use mathlib.Core.Path.{◌≡◌, refl, sym, ap, ◌∙◌}
use Prim.Native.Nat.{ℕ}
use native.Mathlib.Omega.{arith}
use mathlib.Core.Bool.{Bool, true, false, not}
use mathlib.Core.List.{List, [], ◌∷◌}
use lib.ListN.{length}
use Rattle.rules.specs.Choice.{pick, Row, ◌when◌, first_row_answer}
use Rattle.rules.specs.Numbers.{accepted, small_area, wrong_length, wrong_type, wrong_time, unsound, not_carried}
use Rattle.rules.specs.Messages.Forms as forms
use Rattle.rules.specs.Messages.Codec as codec
use Rattle.rules.specs.Messages.Codec.{Outcome, refused, sound, sound_length, defined_kind, defined_fields, all_bytes, fields_as, read}
use Rattle.rules.specs.State.{State, codes}
use Rattle.rules.specs.Calls as rules
use Rattle.rules.specs.Calls.{Answer, are_roomy, is_pending, is_servers, is_hosts, passes_test, is_unsound, is_carried_by, carries, refusals, received, refuses, answers_message, answers, answer}
use Rattle.rules.proofs.Choice.{none_left, row_applies, row_passed, halves}
use borrow.Author.Tests.{not-true}
use Rattle.rules.specs.Messages.Layout.{byte_at}
use Rattle.rules.proofs.Outcomes.{refused-sound, sound_same, refused_same, readable, read_defined, read-refused}
use Rattle.message.specs.declared.Message.{Message}
use Rattle.message.specs.declared.Message.TheVariants as found_message
use Rattle.std.specs.Prelude.{Ok, Err, Option, Some, is_some}
use Rattle.rules.specs.declared.refusals.Refusal.{Refusal}
use Rattle.rules.specs.Refusals.{number_of}
use Rattle.message.specs.Found.{held_in, as_held, found_in}
use Rattle.line.specs.declared.Line.{Line}
use Rattle.line.specs.declared.Reading.{Reading}
use Rattle.line.specs.View.{pending_of, view}
use Rattle.line.specs.Answers.{ruled}
use Rattle.line.specs.Refusals.{first_row, early_row, last_row, late_row}
use Rattle.line.specs.Host.{message_of, host_message_of, Accepted}
use Rattle.line.specs.declared.events.HostMessage.{HostMessage}
use Rattle.std.proofs.Common.{None}

pub is_pending_lem : (l : Line) (pending : Option Reading) → is_some pending ≡ is_pending (pending_of l pending)
unfolding is_pending
is_pending_lem l (Some r) = refl
is_pending_lem l None = refl

-- rows 5 and 6, of what was read
abbrev late_rows : State ℕ → Outcome (forms.Message ℕ) → List Row
late_rows s o = unsound when is_unsound s o ∷ not_carried when not (carries s o) ∷ []

abbrev late : State ℕ → Outcome (forms.Message ℕ) → Outcome (forms.Message ℕ)
late s o = first_row_answer refused o (late_rows s o)

-- all rows behind row 1, by the tests of those before a message is read
abbrev behind_first : Bool → Bool → Bool → State ℕ → Outcome (forms.Message ℕ) → Outcome (forms.Message ℕ)
behind_first sized hosts timely s o =
    first_row_answer refused o
    (wrong_length when not sized ∷ wrong_type when not hosts ∷ wrong_time when not timely ∷ late_rows s o)

module _ (s : State ℕ) (o : Outcome (forms.Message ℕ)) where
  refused_early : (roomy sized hosts timely : Bool) (f : State ℕ → Answer ℕ) → f s ≡ answers_message codes (behind_first sized hosts timely s o) s →
      (first_row roomy sized hosts timely ≡ accepted → ⊥) →
      first_row_answer refuses f (small_area when not roomy ∷ []) s ≡ refuses (first_row roomy sized hosts timely) s
  unfolding first_row first_row_answer pick answers_message
  refused_early false sized hosts timely f e h = refl
  refused_early true false hosts timely f e h = e
  refused_early true true false timely f e h = e
  refused_early true true true false f e h = e
  refused_early true true true true f e h = absurd (h refl)

  passed_early : (roomy sized hosts timely : Bool) → first_row roomy sized hosts timely ≡ accepted →
      (roomy ≡ true) × (behind_first sized hosts timely s o ≡ late s o) × (hosts ≡ true) × (sized ≡ true)
  unfolding first_row first_row_answer pick
  passed_early false sized hosts timely e = absurd (omega arith)
  passed_early true false hosts timely e = absurd (omega arith)
  passed_early true true false timely e = absurd (omega arith)
  passed_early true true true false e = absurd (omega arith)
  passed_early true true true true e = (refl, refl, refl, refl)

-- rows 5 and 6, by their tests
module _ (o : Outcome (forms.Message ℕ)) where
  refused_late : (passes carried : Bool) → (last_row passes carried ≡ accepted → ⊥) →
      first_row_answer refused o (unsound when not passes ∷ not_carried when not carried ∷ []) ≡ refused (last_row passes carried)
  unfolding last_row first_row_answer pick
  refused_late false carried h = refl
  refused_late true false h = refl
  refused_late true true h = absurd (h refl)

  passed_late : (passes carried : Bool) → last_row passes carried ≡ accepted →
      first_row_answer refused o (unsound when not passes ∷ not_carried when not carried ∷ []) ≡ o
  unfolding last_row first_row_answer pick
  passed_late false carried e = absurd (omega arith)
  passed_late true false e = absurd (omega arith)
  passed_late true true e = refl

module _ (l : Line) (t m bytes : List ℕ) {row : ℕ} (e : row ≡ early_row (length t) (length m) bytes (view l)) where
  pub early_refused : (row ≡ 0 → ⊥) → ruled (rules.message bytes) l t m ≡ refuses row (view l)
  unfolding answer answers received refusals
  early_refused h =
      refused_early (view l) (read bytes) _ _ _ _ _ refl (λ k. h (e ∙ k)) ∙ ap (λ n. refuses n (view l)) (sym e)

  pub early_passed : row ≡ 0 →
      (are_roomy (length t) (length m) ≡ true) × (received (view l) bytes ≡ late (view l) (read bytes)) × (is_hosts (byte_at bytes 0) ≡ true) ×
      (sound_length (length bytes) ≡ true)
  unfolding received refusals
  early_passed h = passed_early (view l) (read bytes) _ _ _ _ (sym e ∙ h)

  -- 5, and 6
  module _ (h : row ≡ 0) {n : ℕ} where
    pub outcome_refused : late (view l) (read bytes) ≡ refused n → ruled (rules.message bytes) l t m ≡ refuses n (view l)
    unfolding answer answers answers_message
    outcome_refused k =
        let p = early_passed h in
        ap (λ (f : State ℕ → Answer ℕ). f (view l)) (row_passed refuses _ _ [] (ap not p.0) ∙ none_left refuses _) ∙
        ap (λ o. answers_message codes o (view l)) (p.1 ∙ k)

-- What reading found is what the rules read.
module _ (l : Line) (bytes : List ℕ) where
  -- 5: behind rows 2 and 3 reading refuses for nothing else
  module _ (sized : sound_length (length bytes) ≡ true) (hosts : is_hosts (byte_at bytes 0) ≡ true) where
    refuses_number : (o : Outcome (forms.Message ℕ)) {n : ℕ} → read bytes ≡ o → refused n ≡ as_held o → late (view l) o ≡ refused n
    unfolding as_held is_hosts is_unsound
    refuses_number (refused k) r e =
        let kind = (halves (defined_kind (byte_at bytes 0)) (not (is_servers (byte_at bytes 0))) hosts).0 in
        row_applies refused (refused k) (unsound when true) _ refl ∙
        ap refused (sym (read-refused bytes sized kind r) ∙ sym (refused_same e))
    refuses_number (sound x) r e = absurd (refused-sound e)

    pub found-refused : (r : Refusal) → found_in bytes (Err r) ≡ as_held (read bytes) → late (view l) (read bytes) ≡ refused (number_of r)
    unfolding found_in
    found-refused r e = refuses_number (read bytes) refl e

  module _ (m : Message) (h : HostMessage) (sent : m ≡ message_of h) {row : ℕ} (found : found_in bytes (Ok m) ≡ as_held (read bytes))
      (judges : (x : forms.Message ℕ) → held_in bytes (message_of h) ≡ codec.message x → defined_fields x ≡ true → row ≡ late_row (view l) x) where
    judge : (x : forms.Message ℕ) → read bytes ≡ sound x → held_in bytes m ≡ codec.message x → row ≡ late_row (view l) x
    judge x r e = judges x (ap (held_in bytes) (sym sent) ∙ e) (read_defined bytes x r)

    refuses_late : (row ≡ accepted → ⊥) → (o : Outcome (forms.Message ℕ)) → read bytes ≡ o → sound (held_in bytes m) ≡ as_held o → late (view l) o ≡ refused row
    unfolding as_held carries is_unsound
    refuses_late e (refused n) r h = absurd (refused-sound (sym h))
    refuses_late e (sound x) r h =
        let same = judge x r (sound_same h) in
        refused_late (sound x) (passes_test (view l) x) (is_carried_by (view l) x) (λ z. e (same ∙ z)) ∙ ap refused (sym same)

    pub late-refused : (row ≡ accepted → ⊥) → late (view l) (read bytes) ≡ refused row
    unfolding found_in
    late-refused e = refuses_late e (read bytes) refl found

    module _ (e : row ≡ accepted) (small : all_bytes bytes ≡ true) (passed : received (view l) bytes ≡ late (view l) (read bytes)) where
      accepts : (o : Outcome (forms.Message ℕ)) → read bytes ≡ o → sound (held_in bytes m) ≡ as_held o → Accepted l bytes h
      unfolding as_held carries is_unsound
      accepts (refused n) r k = absurd (refused-sound (sym k))
      accepts (sound x) r k =
          record {
            fields = x;
            held = ap (held_in bytes) (sym sent) ∙ sound_same k;
            taken =
                passed ∙ ap (late (view l)) r ∙
                passed_late (sound x) (passes_test (view l) x) (is_carried_by (view l) x) (sym (judge x r (sound_same k)) ∙ e);
            bytes = small;
          }

      pub is_accepted : Accepted l bytes h
      unfolding found_in
      is_accepted = accepts (read bytes) refl found

abbrev kind_of_held : codec.Held → ℕ
kind_of_held (codec.message x) = x.kind
kind_of_held (codec.other kind body) = kind

pub true-false : true ≡ false → ⊥
true-false e = let z : ◌≡◌ {A = ℕ} 0 1 = cc in omega arith

-- What only servers send is held with a type of theirs.
module _ (bytes : List ℕ) (x : forms.Message ℕ) (hosts : is_servers x.kind ≡ false) where
  no_server : (k : ℕ) → is_servers k ≡ true → k ≡ x.kind → ⊥
  no_server k t e = let z : true ≡ false = sym t ∙ ap is_servers e ∙ hosts in true-false z

  no_host : (k : Message) → host_message_of k ≡ None → held_in bytes k ≡ codec.message x → ⊥
  unfolding held_in is_servers
  no_host (found_message.ReadData f) e h = no_server forms.read_data refl (ap kind_of_held h)
  no_host (found_message.OutOfBand discard character) e h = no_server forms.out_of_band refl (ap kind_of_held h)
  no_host (found_message.WriteCompletion lost horizontal vertical) e h = no_server forms.write_completion refl (ap kind_of_held h)
  no_host (found_message.DiscardState kept) e h = no_server forms.discard_state refl (ap kind_of_held h)
  no_host (found_message.InputCount count) e h = no_server forms.input_count refl (ap kind_of_held h)
  no_host (found_message.InputState nonzero) e h = no_server forms.input_state refl (ap kind_of_held h)
  no_host (found_message.Other kind body) e h = let z : ◌≡◌ {A = ℕ} 0 1 = cc in omega arith
  no_host (found_message.Initiate f) e h = let z : ◌≡◌ {A = ℕ} 0 1 = cc in omega arith
  no_host (found_message.StartRead f) e h = let z : ◌≡◌ {A = ℕ} 0 1 = cc in omega arith
  no_host (found_message.Unread condition) e h = let z : ◌≡◌ {A = ℕ} 0 1 = cc in omega arith
  no_host found_message.ClearInput e h = let z : ◌≡◌ {A = ℕ} 0 1 = cc in omega arith
  no_host (found_message.Write f) e h = let z : ◌≡◌ {A = ℕ} 0 1 = cc in omega arith
  no_host (found_message.ReadCharacteristics p) e h = let z : ◌≡◌ {A = ℕ} 0 1 = cc in omega arith
  no_host (found_message.Characteristics p) e h = let z : ◌≡◌ {A = ℕ} 0 1 = cc in omega arith
  no_host found_message.CheckInput e h = let z : ◌≡◌ {A = ℕ} 0 1 = cc in omega arith

-- A message that only servers send does not pass the early rows.
module _ (bytes : List ℕ) (hosts : is_hosts (byte_at bytes 0) ≡ true) where
  server_kind : (x : forms.Message ℕ) → read bytes ≡ sound x → is_servers x.kind ≡ false
  unfolding is_hosts fields_as
  server_kind x e =
      let first = ap (λ y. y.kind) (readable bytes x e).fields in
      ap is_servers (sym first) ∙ not-true (is_servers (byte_at bytes 0)) (halves (defined_kind (byte_at bytes 0)) (not (is_servers (byte_at bytes 0))) hosts).1

  server_held : (m : Message) → host_message_of m ≡ None → (o : Outcome (forms.Message ℕ)) → read bytes ≡ o → sound (held_in bytes m) ≡ as_held o → ⊥
  unfolding as_held
  server_held m e (refused n) r h = refused-sound (sym h)
  server_held m e (sound x) r h = no_host bytes x (server_kind x r) m e (sound_same h)

  pub server_found : (m : Message) → host_message_of m ≡ None → found_in bytes (Ok m) ≡ as_held (read bytes) → ⊥
  unfolding found_in
  server_found m e h = server_held m e (read bytes) refl h
