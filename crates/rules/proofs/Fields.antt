-- Fields in a number and groups in bytes: what is written is read back. One law over all widths.
use mathlib.Core.Path.{◌≡◌, refl, ap, ap₂, ◌∙◌}
use Prim.Native.Nat.{ℕ, zero, suc, ◌+◌, ◌*◌, ◌/◌, ◌%◌, ◌^◌, ◌<◌}
use native.Mathlib.Nat.{zero-add, add-mul-div_left, add-mul-mod_self_left, div-eq_of_lt, mod-eq_of_lt, mod-lt, mod-add-div}
use native.Mathlib.Nat.{add_comm, mul_comm, lt_of_lt_of_le}
use native.Mathlib.Omega.{arith}
use mathlib.Core.Bool.{Bool, true, false≢true}
use mathlib.Core.List.{List, [], ◌∷◌, ◌++◌, append_assoc, append-nil}
use lib.Dec.{ltb, leb}
use lib.ListN.{length, take, drop, replicate, length-append, length-replicate, take-append-drop}
use lib.Seq.{drop-append_seam}
use lib.Arith.{digits_lt}
use lib.Pow.{pow_pos, pow-add, pow_mono, shr_lt}
use borrow.Author.Tests.{ltb-true, leb-true, lt-ltb}
use Rattle.rules.specs.Choice.{all_are}
use Rattle.rules.specs.Messages.Layout.{fields_in, number_of, fits, Group, size_of, widths_of, number_at, bytes_of, read_groups, write_groups}
use Rattle.rules.specs.Messages.Unused.{bits_of, zero_groups}
use Rattle.rules.proofs.Choice.{both, halves, all_cons}

-- A field under its width, and what stands above it.
low_field : (w : ℕ) {v : ℕ} (n : ℕ) → v < 2 ^ w → (v + 2 ^ w * n) % 2 ^ w ≡ v
low_field w {v} n h = add-mul-mod_self_left v (2 ^ w) n ∙ mod-eq_of_lt h

above_field : (w : ℕ) {v : ℕ} (n : ℕ) → v < 2 ^ w → (v + 2 ^ w * n) / 2 ^ w ≡ n
above_field w {v} n h = add-mul-div_left v n (pow_pos w) ∙ ap (λ (k : ℕ). k + n) (div-eq_of_lt h) ∙ zero-add n

number_above : (w b : ℕ) {v n : ℕ} → v < 2 ^ w → n < 2 ^ b → v + 2 ^ w * n < 2 ^ (w + b)
number_above w b {v} {n} hv hn = rw (pow-add 2 w b, add_comm v (2 ^ w * n), mul_comm (2 ^ w) n, mul_comm (2 ^ w) (2 ^ b)) (digits_lt hn hv)

-- Fields of these widths, with other fields behind them.
module _ (more : List ℕ) where
  pub fields_back : (ws vs : List ℕ) → fits ws vs ≡ true → fields_in ws (number_of ws (vs ++ more)) ≡ vs
  unfolding fits fields_in number_of
  fields_back [] [] e = refl
  fields_back [] (v ∷ vs) e = absurd (false≢true e)
  fields_back (w ∷ ws) [] e = absurd (false≢true e)
  fields_back (w ∷ ws) (v ∷ vs) e =
      let h = halves (ltb v (2 ^ w)) (fits ws vs) e in
      let n = number_of ws (vs ++ more) in
      let v< = ltb-true v (2 ^ w) h.0 in
      ap₂ ◌∷◌ (low_field w n v<) (ap (fields_in ws) (above_field w n v<) ∙ fields_back ws vs h.1)

  pub number_under : (ws vs : List ℕ) → fits ws vs ≡ true → number_of ws (vs ++ more) < 2 ^ bits_of ws
  unfolding fits number_of bits_of
  number_under [] [] e = omega arith
  number_under [] (v ∷ vs) e = absurd (false≢true e)
  number_under (w ∷ ws) [] e = absurd (false≢true e)
  number_under (w ∷ ws) (v ∷ vs) e =
      let h = halves (ltb v (2 ^ w)) (fits ws vs) e in
      number_above w (bits_of ws) (ltb-true v (2 ^ w) h.0) (number_under ws vs h.1)

  pub number_back : (ws : List ℕ) (n : ℕ) → n < 2 ^ bits_of ws → number_of ws (fields_in ws n ++ more) ≡ n
  unfolding fields_in number_of bits_of
  number_back [] n h = omega arith
  number_back (w ∷ ws) n h =
      let above = shr_lt (bits_of ws) w (rw (add_comm w (bits_of ws)) at h) in
      ap (λ (k : ℕ). n % 2 ^ w + 2 ^ w * k) (number_back ws (n / 2 ^ w) above) ∙ mod-add-div n (2 ^ w)

pub fields_fit : (ws : List ℕ) (n : ℕ) → fits ws (fields_in ws n) ≡ true
unfolding fits fields_in
fields_fit [] n = refl
fields_fit (w ∷ ws) n = both (lt-ltb (n % 2 ^ w) (2 ^ w) (mod-lt n (pow_pos w))) (fields_fit ws (n / 2 ^ w))

-- The laws for fields alone.
pub fields_in_number_of : (ws vs : List ℕ) → fits ws vs ≡ true → fields_in ws (number_of ws vs) ≡ vs
fields_in_number_of ws vs e = rw append-nil at (fields_back [] ws vs e)

-- Widths in two parts.
pub fits_append : (ws us vs xs : List ℕ) → fits ws vs ≡ true → fits us xs ≡ true → fits (ws ++ us) (vs ++ xs) ≡ true
unfolding fits
fits_append [] us [] xs e e' = e'
fits_append [] us (v ∷ vs) xs e e' = absurd (false≢true e)
fits_append (w ∷ ws) us [] xs e e' = absurd (false≢true e)
fits_append (w ∷ ws) us (v ∷ vs) xs e e' =
    let h = halves (ltb v (2 ^ w)) (fits ws vs) e in
    both h.0 (fits_append ws us vs xs h.1 e')

pub fits_split : (ws us vs : List ℕ) → fits (ws ++ us) vs ≡ true →
    (fits ws (take (length ws) vs) ≡ true) × (fits us (drop (length ws) vs) ≡ true)
unfolding fits
fits_split [] us vs e = (refl, e)
fits_split (w ∷ ws) us [] e = absurd (false≢true e)
fits_split (w ∷ ws) us (v ∷ vs) e =
    let h = halves (ltb v (2 ^ w)) (fits (ws ++ us) vs) e in
    let r = fits_split ws us vs h.1 in
    (both h.0 r.0, r.1)

pub length-fields_in : (ws : List ℕ) (n : ℕ) → length (fields_in ws n) ≡ length ws
unfolding fields_in
length-fields_in [] n = refl
length-fields_in (w ∷ ws) n = ap suc (length-fields_in ws (n / 2 ^ w))

-- Numbers in whole bytes.
pub bits_of_bytes : (n : ℕ) → bits_of (replicate n 8) ≡ 8 * n
unfolding bits_of
bits_of_bytes zero = refl
bits_of_bytes (suc n) = let e = bits_of_bytes n in omega arith

pub length_bytes_of : (n v : ℕ) → length (bytes_of n v) ≡ n
length_bytes_of n v = length-fields_in (replicate n 8) v ∙ length-replicate n 8

pub number_at_bytes_of : (n v : ℕ) (p rest : List ℕ) → v < 2 ^ (8 * n) → number_at n (length p) (p ++ (bytes_of n v ++ rest)) ≡ v
number_at_bytes_of n v p rest h =
    ap (number_of (replicate n 8)) (drop-append_seam p (bytes_of n v ++ rest)) ∙
    number_back rest (replicate n 8) v (rw (← bits_of_bytes n) at h)

-- Groups: the fields of each take at most the bits of its bytes.
unfoldable pub roomy : List Group → Bool
roomy gs = all_are (λ g. leb (bits_of g.widths) (8 * g.bytes)) gs

pub length-write_groups : (gs : List Group) (vs : List ℕ) → length (write_groups gs vs) ≡ size_of gs
unfolding write_groups size_of
length-write_groups [] vs = refl
length-write_groups (g ∷ gs) vs =
    length-append (bytes_of g.bytes (number_of g.widths vs)) (write_groups gs (drop (length g.widths) vs)) ∙
    ap₂ ◌+◌ (length_bytes_of g.bytes (number_of g.widths vs)) (length-write_groups gs (drop (length g.widths) vs))

pub read_groups_fit : (gs : List Group) (at : ℕ) (bytes : List ℕ) → fits (widths_of gs) (read_groups gs at bytes) ≡ true
unfolding fits widths_of read_groups
read_groups_fit [] at bytes = refl
read_groups_fit (g ∷ gs) at bytes =
    let n = number_at g.bytes at bytes in
    let next = at + g.bytes in
    fits_append g.widths (widths_of gs) (fields_in g.widths n) (read_groups gs next bytes)
    (fields_fit g.widths n) (read_groups_fit gs next bytes)

-- a group's bytes
abbrev group_bytes : Group → List ℕ → List ℕ
group_bytes g vs = bytes_of g.bytes (number_of g.widths vs)

-- The first group of what was written behind p, and the others, which are written behind p and the first.
module _
    (g : Group) (gs : List Group) (vs p rest : List ℕ)
    (room : leb (bits_of g.widths) (8 * g.bytes) ≡ true) (e : fits (g.widths ++ widths_of gs) vs ≡ true) where
  abbrev count : ℕ
  count = length g.widths

  abbrev first : List ℕ
  first = group_bytes g vs

  abbrev others : List ℕ
  others = write_groups gs (drop count vs)

  next_place : length p + g.bytes ≡ length (p ++ first)
  next_place = simp (length-append, length_bytes_of)

  next_bytes : p ++ (first ++ others ++ rest) ≡ p ++ first ++ (others ++ rest)
  next_bytes = simp append_assoc

  first_fits : fits g.widths (take count vs) ≡ true
  first_fits = (fits_split g.widths (widths_of gs) vs e).0

  first_under : number_of g.widths vs < 2 ^ bits_of g.widths
  first_under = rw take-append-drop at (number_under (drop count vs) g.widths (take count vs) first_fits)

  first_number : number_at g.bytes (length p) (p ++ (first ++ others ++ rest)) ≡ number_of g.widths vs
  first_number =
      let bits = pow_mono (leb-true (bits_of g.widths) (8 * g.bytes) room) in
      rw append_assoc (number_at_bytes_of g.bytes (number_of g.widths vs) p (others ++ rest) (lt_of_lt_of_le first_under bits))

  first_fields : fields_in g.widths (number_of g.widths vs) ≡ take count vs
  first_fields = rw take-append-drop at (fields_back (drop count vs) g.widths (take count vs) first_fits)

  -- given the same of the others
  first_back : read_groups gs (length (p ++ first)) (p ++ first ++ (others ++ rest)) ≡ drop count vs →
      read_groups (g ∷ gs) (length p) (p ++ (write_groups (g ∷ gs) vs ++ rest)) ≡ vs
  unfolding read_groups write_groups
  first_back later = rw (first_number, first_fields, next_place, next_bytes, later) (take-append-drop count vs)

  first_zero : zero_groups gs (length (p ++ first)) (p ++ first ++ (others ++ rest)) ≡ true →
      zero_groups (g ∷ gs) (length p) (p ++ (write_groups (g ∷ gs) vs ++ rest)) ≡ true
  unfolding zero_groups write_groups
  first_zero later = rw (first_number, next_place, next_bytes) (both (lt-ltb _ _ first_under) later)

pub groups_back : (gs : List Group) (vs p rest : List ℕ) → roomy gs ≡ true → fits (widths_of gs) vs ≡ true →
    read_groups gs (length p) (p ++ (write_groups gs vs ++ rest)) ≡ vs
unfolding roomy fits widths_of read_groups
groups_back [] [] p rest r e = refl
groups_back [] (v ∷ vs) p rest r e = absurd (false≢true e)
groups_back (g ∷ gs) vs p rest r e =
    let h = all_cons _ g gs r in
    let later = (fits_split g.widths (widths_of gs) vs e).1 in
    first_back g gs vs p rest h.0 e (groups_back gs (drop (length g.widths) vs) (p ++ group_bytes g vs) rest h.1 later)

-- and nothing stands above the fields
pub groups_zero : (gs : List Group) (vs p rest : List ℕ) → roomy gs ≡ true → fits (widths_of gs) vs ≡ true →
    zero_groups gs (length p) (p ++ (write_groups gs vs ++ rest)) ≡ true
unfolding roomy widths_of zero_groups
groups_zero [] vs p rest r e = refl
groups_zero (g ∷ gs) vs p rest r e =
    let h = all_cons _ g gs r in
    let later = (fits_split g.widths (widths_of gs) vs e).1 in
    first_zero g gs vs p rest h.0 e (groups_zero gs (drop (length g.widths) vs) (p ++ group_bytes g vs) rest h.1 later)
