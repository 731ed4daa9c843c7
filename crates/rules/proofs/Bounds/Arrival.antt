-- A key that arrives, and the clear rule, within bounds.
use mathlib.Core.Path.{◌≡◌, refl}
use Prim.Native.Nat.{ℕ, ◌+◌, ◌*◌, ◌<◌}
use native.Mathlib.Omega.{arith}
use mathlib.Core.Bool.{Bool, true}
use mathlib.Core.List.{[], ◌∷◌, map-append}
use mathlib.Core.Option.{Option, none, some}
use lib.ListN.{length, length-append}
use borrow.Author.Tests.{ltb-true}
use Rattle.rules.specs.Numbers.{input_size, type_ahead_size}
use Rattle.rules.specs.State.{Reading, State, codes, with_typed, with_idle}
use Rattle.rules.specs.Turns.{cleared, still, writes, tells, changes, behind, ◌then◌}
use Rattle.rules.specs.Editing.{end_of, deletes, deletes_without_rubbing}
use Rattle.rules.specs.ReadData.{by_out_of_band, ends_read, completes}
use Rattle.rules.specs.Arrival.{idle_again, keeps, counts_dropped, drops, stores, stores_quoted, quotes, sends_discard_state, unlocks, unlocks_if_discarding, flips_discard, empties_typed, clears_input}
use Rattle.rules.specs.Arrival.{Rubbing, rubbing_out, without_rubbing, clear_rule, sends_out_of_band, ends_out_of_band, clears_at_once}
use Rattle.rules.specs.Bounds.{BoundedReading, BoundedRead}
use Rattle.rules.proofs.Bounds.Bytes.{no_bytes, one_byte, bytes_append}
use Rattle.rules.proofs.Bounds.Turns.{OfRead, Steady, Good, Fine, fine, arrival_bytes, arrival_area, answer_area, reset, reflagged, retyped, reread}
use Rattle.rules.proofs.Bounds.Turns.{still_good, changes_good, writes_good, sends_good, tells_then, changes_then, then_good, quiet_then, then_quiet, pick_good, only_good}
use Rattle.rules.proofs.Bounds.Messages.{discard_state_sent, out_of_band_sent}
use Rattle.rules.proofs.Bounds.ReadData.{bounded_answerable, completes_good}
use Rattle.rules.proofs.Bounds.Editing.{deletes_without_rubbing_good, deletes_good}

pub idle_bounded : (n : ℕ) (r : Reading ℕ) → (r.terms.timed ≡ true → 0 < r.terms.timeout → n < r.terms.timeout) →
    BoundedReading r → BoundedReading (with_idle n r)
unfolding end_of
idle_bounded n r due b =
    record { terms = b.terms; room = b.room; low_water = b.low_water; input_bytes = b.input_bytes; idle = due; display_column = b.display_column }

idle_again_bounded : (o : Option (Reading ℕ)) → BoundedRead o → BoundedRead (idle_again o)
unfolding idle_again
idle_again_bounded none b = tt
idle_again_bounded (some r) b = idle_bounded 0 r (λ timed due. due) b

module _ {area : ℕ} {s : State ℕ} (c : ℕ) (byte : c < 256) (h : Steady BoundedRead s) where
  keeps_good : {bytes : ℕ} (quoted : Bool) → length s.typed.type_ahead < type_ahead_size → Good BoundedRead bytes area (keeps quoted c s)
  unfolding keeps
  keeps_good quoted room =
      let n = length-append s.typed.type_ahead (record { char = c; quoted = quoted } ∷ []) in
      changes_good _
      (reread
      (retyped h (record {
        type_ahead = omega arith;
        token = h.typed.token;
        key_bytes = rw map-append (bytes_append _ (c ∷ []) h.typed.key_bytes (one_byte c byte));
        token_bytes = h.typed.token_bytes;
      }))
      (idle_again s.pending_read) (idle_again_bounded s.pending_read h.pending_read))

  drops_good : Good BoundedRead arrival_bytes area (drops c s)
  unfolding drops counts_dropped
  drops_good =
      tells_then _ _
      (then_good _ _ 1 0 0 area (omega arith) (omega arith) (writes_good _ (omega arith) h) λ s₁ h₁.
      changes_good _ (reset h₁ (record { column = h₁.terminal.column; line = h₁.terminal.line; dropped = omega arith })))

  pub stores_good : (quoted : Bool) → Good BoundedRead arrival_bytes area (stores type_ahead_size quoted c s)
  unfolding stores
  stores_good quoted =
      pick_good _ _ _ (λ y. keeps_good quoted (ltb-true (length s.typed.type_ahead) type_ahead_size y)) (λ n. drops_good)

module _ {s : State ℕ} (c : ℕ) (h : Steady BoundedRead s) where
  pub quotes_good : {bytes area : ℕ} → Good BoundedRead bytes area (quotes c s)
  unfolding quotes
  quotes_good = tells_then _ _ (changes_good _ (reflagged h))

  pub flips_discard_good : {bytes : ℕ} → Good BoundedRead bytes 4 (flips_discard c s)
  unfolding flips_discard sends_discard_state unlocks unlocks_if_discarding
  flips_discard_good =
      tells_then _ _ (changes_then _ _
      (then_quiet _ _ (sends_good _ (discard_state_sent _) (omega arith) (reflagged h)) λ s₁ h₁.
      only_good _ _ (λ y. changes_good _ (reflagged h₁)) (λ n. h₁)))

-- The clear rule, and how many bytes it writes at most.
abbrev rubbed : Rubbing → ℕ
rubbed rubbing_out = 24 * input_size
rubbed without_rubbing = 0

pub empties_typed_good : {R : OfRead} {bytes area : ℕ} {s : State ℕ} → Steady R s → Good R bytes area (empties_typed s)
unfolding empties_typed
empties_typed_good h =
    tells_then _ _ (changes_good _ (retyped h (record { type_ahead = omega arith; token = omega arith; key_bytes = no_bytes; token_bytes = no_bytes })))

module _ {s : State ℕ} (h : Steady BoundedRead s) where
  clears_input_good : {area : ℕ} (rubbing : Rubbing) (o : Option (Reading ℕ)) → BoundedRead o →
      Good BoundedRead (rubbed rubbing) area (clears_input codes rubbing o s)
  unfolding clears_input
  clears_input_good rubbing none b = still_good h
  clears_input_good rubbing_out (some r) b = deletes_good cleared 0 r b h
  clears_input_good without_rubbing (some r) b = deletes_without_rubbing_good cleared 0 r b h

  ends_out_of_band_good : {bytes : ℕ} (o : Option (Reading ℕ)) → BoundedRead o → Good BoundedRead bytes answer_area (ends_out_of_band codes o s)
  unfolding ends_out_of_band
  ends_out_of_band_good none b = still_good h
  ends_out_of_band_good (some r) b = completes_good by_out_of_band 0 r (omega arith) (bounded_answerable r b) h

module _ {s : State ℕ} (h : Steady BoundedRead s) where
  pub clear_rule_good : {area : ℕ} (rubbing : Rubbing) → Good BoundedRead (rubbed rubbing) area (clear_rule codes rubbing s)
  unfolding clear_rule
  clear_rule_good rubbing = quiet_then _ _ (empties_typed_good h) λ s₁ h₁. clears_input_good h₁ rubbing s₁.pending_read h₁.pending_read

module _ {s : State ℕ} (h : Steady BoundedRead s) where
  pub clear_rule_fine : Fine (clear_rule codes rubbing_out s)
  clear_rule_fine = fine (24 * input_size) 0 (omega arith) (omega arith) (clear_rule_good h rubbing_out)

  module _ (c : ℕ) (byte : c < 256) where
    pub stores_quoted_good : {area : ℕ} → Good BoundedRead arrival_bytes area (stores_quoted c s)
    unfolding stores_quoted
    stores_quoted_good = changes_then _ _ (stores_good c byte (reflagged h) true)

    pub sends_out_of_band_good : {bytes : ℕ} → Good BoundedRead bytes arrival_area (sends_out_of_band codes c s)
    unfolding sends_out_of_band
    sends_out_of_band_good = tells_then _ _ (sends_good _ (out_of_band_sent c byte) (omega arith) h)

    pub clears_at_once_good : Good BoundedRead 0 (arrival_area + answer_area) (clears_at_once codes c s)
    unfolding clears_at_once unlocks
    clears_at_once_good =
        then_good _ _ 0 0 arrival_area answer_area (omega arith) (omega arith) sends_out_of_band_good λ s₁ h₁.
        changes_then _ _
        (quiet_then _ _ (clear_rule_good (reflagged h₁) without_rubbing) λ s₂ h₂.
        ends_out_of_band_good h₂ s₂.pending_read h₂.pending_read)

-- What the clear rule and immediate clear leave for a step: no key, and no read.

clears_input_keeps : (o : Option (Reading ℕ)) (s : State ℕ) → (clears_input codes rubbing_out o s).state.typed.type_ahead ≡ s.typed.type_ahead
unfolding clears_input deletes deletes_without_rubbing still writes tells changes ◌then◌ behind
clears_input_keeps none s = refl
clears_input_keeps (some r) s = refl

pub clear_rule_empties : (s : State ℕ) → (clear_rule codes rubbing_out s).state.typed.type_ahead ≡ []
unfolding clear_rule empties_typed tells changes ◌then◌ behind
clear_rule_empties s = clears_input_keeps s.pending_read (with_typed [] [] s)

ends_out_of_band_ends : (o : Option (Reading ℕ)) (s : State ℕ) → s.pending_read ≡ o → (ends_out_of_band codes o s).state.pending_read ≡ none
unfolding ends_out_of_band completes ends_read still changes ◌then◌ behind
ends_out_of_band_ends none s e = e
ends_out_of_band_ends (some r) s e = refl

pub clears_at_once_ends : (c : ℕ) (s : State ℕ) → (clears_at_once codes c s).state.pending_read ≡ none
unfolding clears_at_once ◌then◌ behind
clears_at_once_ends c s = ends_out_of_band_ends _ _ refl
