-- Reading by type: the length, then the type, then as that type.
use mathlib.Core.Path.{◌≡◌, refl, sym, ap, ◌∙◌, subst}
use Prim.Native.Nat.{ℕ, zero, suc, ◌≤◌}
use native.Mathlib.Omega.{arith}
use mathlib.Core.Bool.{Bool, true, false, not, ◌&&◌}
use mathlib.Core.List.{List}
use lib.Dec.{leb}
use lib.ListN.{length}
use borrow.Author.Tests.{leb-true, lt-leb}
use Rattle.rules.specs.Choice.{pick, first_row_answer, within}
use Rattle.rules.specs.Numbers.{message_size, wrong_length, wrong_type, unsound}
use Rattle.rules.specs.Messages.Layout.{byte_at}
use Rattle.rules.specs.Messages.Forms.{form_of, type_in}
use Rattle.rules.specs.Messages.Codec.{sound, refused, defined_kind, sound_as, fields_as, sound_length, read_refusals, read}
use Rattle.rules.proofs.Choice.{pick_true, pick-false, halves}
use Rattle.std.specs.Prelude.{Result}
use Rattle.rules.specs.declared.refusals.Refusal.{Refusal}
use Rattle.message.specs.declared.Message.{Message}
use Rattle.message.specs.Found.{IsType, Finds, as_held, decoded_as}

-- none of the numbers from 1 up to a last one, as a `match` leaves it
abbrev pub NoneOf : ℕ → ℕ → Type 0
NoneOf k zero = Unit {0}
NoneOf k (suc last) = NoneOf k last × (k ≡ suc last → ⊥)

none_past : {k : ℕ} (last : ℕ) → NoneOf k last → 1 ≤ k → suc last ≤ k
none_past zero others h = h
none_past (suc last) others h =
    let before = none_past last others.0 h in
    let other = others.1 in
    omega arith

pub undefined_kind : {k : ℕ} → NoneOf k 14 → defined_kind k ≡ false
unfolding defined_kind within
undefined_kind {k} others = by_least (leb 1 k) refl
  where
    by_least : (t : Bool) → leb 1 k ≡ t → t && leb k 14 ≡ false
    by_least false e = refl
    by_least true e = lt-leb k 14 (none_past 14 others (leb-true 1 k e))

-- `most` is the longest message, as the code has it.
module _ (s : List ℕ) {most : ℕ} (longest : message_size ≡ most) where
  abbrev length_test : Bool
  length_test = leb 1 (length s) && leb (length s) most

  pub length_test_lem : sound_length (length s) ≡ length_test
  unfolding sound_length within
  length_test_lem = ap (λ n. leb 1 (length s) && leb (length s) n) longest

  pub wrong_length_lem : length_test ≡ false → refused wrong_length ≡ as_held (read s)
  unfolding read read_refusals first_row_answer as_held
  wrong_length_lem e = ap as_held (sym (pick_true _ _ (ap not (length_test_lem ∙ e))))

module _ (s : List ℕ) (e : sound_length (length s) ≡ true) {kind : ℕ} (k : kind ≡ byte_at s 0) where
  pub wrong_type_lem : defined_kind kind ≡ false → refused wrong_type ≡ as_held (read s)
  unfolding read read_refusals first_row_answer as_held
  wrong_type_lem d = ap as_held (sym (pick-false _ _ (ap not e) ∙ pick_true _ _ (ap not (ap defined_kind (sym k) ∙ d))))

  -- a type by its number
  module _ {n : ℕ} (t : kind ≡ n) where
    pub is_type : IsType n s
    unfolding sound_length within
    is_type = record { typed = sym k ∙ t; short = leb-true (length s) message_size (halves (leb 1 (length s)) (leb (length s) message_size) e).1 }

    as_type : leb 1 n && leb n 14 ≡ true → decoded_as n s ≡ as_held (read s)
    unfolding read read_refusals first_row_answer decoded_as defined_kind within
    as_type d =
        let same = sym k ∙ t in
        ap as_held
        (sym
        (pick-false _ _ (ap not e) ∙
        pick-false _ _ (ap not (ap defined_kind same ∙ d)) ∙
        ap (λ m. pick (not (sound_as (form_of m) s)) (refused unsound) (sound (fields_as (form_of m) s))) same))

    pub as_read : leb 1 n && leb n 14 ≡ true → {f : Result Message Refusal} → Finds s (decoded_as n s) f → Finds s (as_held (read s)) f
    as_read d found = record { fields = found.fields ∙ as_type d; inside = found.inside }

    pub as_fixed : leb 1 n && leb n 14 ≡ true → {f : Result Message Refusal} → Finds s (decoded_as (type_in s) s) f → Finds s (as_held (read s)) f
    as_fixed d {f} found = as_read d (subst (λ m. Finds s (decoded_as m s) f) (sym k ∙ t) found)
