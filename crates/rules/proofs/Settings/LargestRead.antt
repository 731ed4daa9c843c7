-- The section of the largest read: as many bytes as its form has.
use mathlib.Core.Path.{◌≡◌, refl, sym, ap, ap₂, ◌∙◌}
use Prim.Native.Nat.{ℕ, ◌*◌, ◌^◌, ◌≤◌, ◌<◌}
use native.Mathlib.Omega.{arith}
use mathlib.Core.Bool.{Bool, true, false}
use mathlib.Core.List.{List, [], ◌∷◌, append-nil}
use lib.Dec.{leb, eqb}
use lib.ListN.{length}
use lib.Seq.{take_all}
use borrow.Author.Tests.{leb-true, le-leb, eqb-true, eq-eqb, ne_eqb}
use Rattle.rules.specs.Choice.{pick, is_empty}
use Rattle.rules.specs.Messages.Layout.{byte_bits, word_bytes, number_of, number_at, bytes_of}
use Rattle.rules.specs.Messages.Codec.{all_bytes}
use Rattle.rules.specs.Settings.{form1, largest_read_bytes, top_largest_read, sound_largest_read, largest_read_in, unless_empty, or_empty}
use Rattle.rules.specs.Settings.Moving.{largest_read_as}
use Rattle.rules.proofs.Choice.{both, halves, empty_length}
use Rattle.rules.proofs.Fields.{length_bytes_of, number_at_bytes_of}
use Rattle.rules.proofs.Bounds.Bytes.{number_bytes, front_bytes}
use Rattle.rules.proofs.Settings.Parts.{Says}

-- Either form has a byte or two, and they hold what it may say.
record WideEnough (width top : ℕ) : Type 0 where
  some : 1 ≤ width
  few : width ≤ word_bytes
  fits : top < 2 ^ (byte_bits * width)

either : (t : Bool) {a b c d : ℕ} → WideEnough a c → WideEnough b d → WideEnough (pick t a b) (pick t c d)
unfolding pick
either true one two = one
either false one two = two

wide_enough : (form : ℕ) → WideEnough (largest_read_bytes form) (top_largest_read form)
unfolding largest_read_bytes top_largest_read
wide_enough form =
    either (eqb form form1) (record { some = omega arith; few = omega arith; fits = omega arith })
    (record { some = omega arith; few = omega arith; fits = omega arith })

pub as_size : (form : ℕ) (section : List ℕ) → length (largest_read_as form section) ≤ word_bytes
unfolding largest_read_as is_empty pick
as_size form [] = omega arith
as_size form (b ∷ section) = let size = length_bytes_of (largest_read_bytes form) (largest_read_in (b ∷ section)) in omega (arith, (wide_enough form).few)

-- What stands in so few bytes is the number in all of them.
all_read : (bytes : List ℕ) → length bytes ≤ word_bytes → largest_read_in bytes ≡ number_at (length bytes) 0 bytes
unfolding number_of
all_read [] h = refl
all_read (a ∷ []) h = refl
all_read (a ∷ b ∷ []) h = refl
all_read (a ∷ b ∷ c ∷ bytes) h = absurd (omega arith)

module _ (form : ℕ) (bytes : List ℕ) (sound : sound_largest_read form bytes ≡ true) (filled : is_empty bytes ≡ false) where
  parts : (length bytes ≡ largest_read_bytes form) × (largest_read_in bytes ≤ top_largest_read form)
  unfolding sound_largest_read
  parts =
      let t = halves (eqb (length bytes) (largest_read_bytes form)) (leb (largest_read_in bytes) (top_largest_read form)) (rw filled at sound) in
      (eqb-true (length bytes) (largest_read_bytes form) t.0, leb-true (largest_read_in bytes) (top_largest_read form) t.1)

  largest_read_back : all_bytes bytes ≡ true → bytes_of (largest_read_bytes form) (largest_read_in bytes) ≡ bytes
  largest_read_back are_bytes =
      let size = parts.0 in
      let few = (wide_enough form).few in
      let n = length bytes in
      ap₂ bytes_of (sym size) (all_read bytes (omega arith)) ∙ front_bytes n bytes are_bytes (omega arith) ∙ take_all n bytes (omega arith)

-- of no bytes it is 0
pub largest_read_sayable : (form : ℕ) (bytes : List ℕ) → sound_largest_read form bytes ≡ true → largest_read_in bytes ≤ top_largest_read form
unfolding is_empty number_of
largest_read_sayable form [] sound = omega arith
largest_read_sayable form (b ∷ bytes) sound = (parts form (b ∷ bytes) sound refl).1

-- The section in a form: its number in that form's bytes; in its own form the section itself.
pub largest_read_written : (form : ℕ) (section : List ℕ) →
    or_empty (bytes_of (largest_read_bytes form)) (unless_empty largest_read_in section) ≡ largest_read_as form section
unfolding or_empty unless_empty largest_read_as is_empty pick
largest_read_written form [] = refl
largest_read_written form (b ∷ bytes) = refl

pub largest_read_own : (form : ℕ) (section : List ℕ) → all_bytes section ≡ true → sound_largest_read form section ≡ true → largest_read_as form section ≡ section
unfolding largest_read_as is_empty pick
largest_read_own form [] bytes sound = refl
largest_read_own form (b ∷ section) bytes sound = largest_read_back form (b ∷ section) sound refl bytes

module _ (form n : ℕ) (h : n ≤ top_largest_read form) where
  abbrev section : List ℕ
  section = bytes_of (largest_read_bytes form) n

  section_said : largest_read_in section ≡ n
  section_said =
      let width = largest_read_bytes form in
      let size = length_bytes_of width n in
      let few = (wide_enough form).few in
      let fits = (wide_enough form).fits in
      all_read section (omega arith) ∙ ap (λ w. number_at w 0 section) size ∙ rw append-nil at (number_at_bytes_of width n [] [] (omega arith))

  pub largest_read_says : Says (sound_largest_read form) largest_read_in n section
  unfolding sound_largest_read
  largest_read_says =
      let size = length_bytes_of (largest_read_bytes form) n in
      let some = (wide_enough form).some in
      let few = (wide_enough form).few in
      let filled = empty_length section ∙ ne_eqb (length section) 0 (λ e. omega arith) in
      record {
        filled = filled;
        short = omega arith;
        bytes = number_bytes (largest_read_bytes form) n;
        passes = rw filled (both (eq-eqb (length section) (largest_read_bytes form) size) (le-leb (largest_read_in section) (top_largest_read form) (rw section_said h)));
        said = section_said;
      }
