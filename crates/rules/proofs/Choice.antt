-- Laws of the tests and of the choice by a test: from a test's value to what it says, and back.
use mathlib.Core.Path.{◌≡◌, refl, sym, ap, ◌∙◌}
use Prim.Native.Nat.{ℕ, zero, suc, ◌+◌, ◌≤◌, ◌<◌}
use native.Mathlib.Numerals.{add-one}
use native.Mathlib.Omega.{arith}
use mathlib.Core.Bool.{Bool, true, false, ◌&&◌, ◌||◌, false≢true, and_assoc}
use mathlib.Core.List.{List, [], ◌∷◌, ◌++◌, map, Memᴰ}
use lib.Dec.{leb, eqb}
use lib.ListN.{length, get_or, set, take, drop, take-append-drop, drop_of_length-le}
use lib.Seq.{drop-cons}
use borrow.Author.Tests.{leb-true, le-leb, eqb-true, eq-eqb, ne_eqb}
use Rattle.std.specs.List.{list_any}
use Rattle.rules.specs.Choice.{pick, Row, first_row_answer, within, is_empty, all_are, any_is, joined, same, same_all}

-- The choice.
module _ {A : Type 0} where
  pub pick_true : {t : Bool} (a b : A) → t ≡ true → pick t a b ≡ a
  unfolding pick
  pick_true a b e = rw e

  pub pick-false : {t : Bool} (a b : A) → t ≡ false → pick t a b ≡ b
  unfolding pick
  pick-false a b e = rw e

  -- what holds of both, each under its test, holds of the choice
  pub pick_case : (P : A → Type 0) (t : Bool) {a b : A} → (t ≡ true → P a) → (t ≡ false → P b) → P (pick t a b)
  unfolding pick
  pick_case P true f g = f refl
  pick_case P false f g = g refl

  -- what relates both relates the choices by one test, each under it
  pub pick_cases : {B : Type 0} (R : A → B → Type 0) (t : Bool) {a b : A} {c d : B} → (t ≡ true → R a c) → (t ≡ false → R b d) →
      R (pick t a b) (pick t c d)
  unfolding pick
  pick_cases R true p q = p refl
  pick_cases R false p q = q refl

  pub pick_both : {B : Type 0} (R : A → B → Type 0) (t : Bool) {a b : A} {c d : B} → R a c → R b d → R (pick t a b) (pick t c d)
  pick_both R t p q = pick_cases R t (λ e. p) (λ e. q)

  -- choices by one test, of equal things where it holds
  pub pick_same : (t : Bool) {a a' : A} (b : A) → (t ≡ true → a ≡ a') → pick t a b ≡ pick t a' b
  unfolding pick
  pick_same true b e = e refl
  pick_same false b e = refl

  -- a choice that is x was made for the side that can be x
  pub pick_first : (t : Bool) {a b x : A} → (b ≡ x → ⊥) → pick t a b ≡ x → (t ≡ true) × (a ≡ x)
  unfolding pick
  pick_first true no_b e = (refl, e)
  pick_first false no_b e = absurd (no_b e)

  pub pick_second : (t : Bool) {a b x : A} → (a ≡ x → ⊥) → pick t a b ≡ x → (t ≡ false) × (b ≡ x)
  unfolding pick
  pick_second true no_a e = absurd (no_a e)
  pick_second false no_a e = (refl, e)

-- A test goes one way or the other.
pub test_case : (P : Type 0) (t : Bool) → (t ≡ true → P) → (t ≡ false → P) → P
test_case P true f g = f refl
test_case P false f g = g refl

-- The first row that applies.
pub none_left : {A : Type 0} (answer : ℕ → A) (otherwise : A) → first_row_answer answer otherwise [] ≡ otherwise
unfolding first_row_answer
none_left answer otherwise = refl

module _ {A : Type 0} (answer : ℕ → A) (otherwise : A) (r : Row) (rows : List Row) where
  pub row_applies : r.applies ≡ true → first_row_answer answer otherwise (r ∷ rows) ≡ answer r.number
  unfolding first_row_answer
  row_applies e = pick_true _ _ e

  pub row_passed : r.applies ≡ false → first_row_answer answer otherwise (r ∷ rows) ≡ first_row_answer answer otherwise rows
  unfolding first_row_answer
  row_passed e = pick-false _ _ e

  -- an answer that is not this row's came from the rows behind it
  pub row_behind : {x : A} → (answer r.number ≡ x → ⊥) → first_row_answer answer otherwise (r ∷ rows) ≡ x →
      (r.applies ≡ false) × (first_row_answer answer otherwise rows ≡ x)
  unfolding first_row_answer
  row_behind other e = pick_second r.applies other e

-- Both tests.
pub both : {a b : Bool} → a ≡ true → b ≡ true → a && b ≡ true
both p q = rw (p, q)

pub halves : (a b : Bool) → a && b ≡ true → (a ≡ true) × (b ≡ true)
halves true b e = (refl, e)
halves false b e = absurd (false≢true e)

pub thirds : (a b c : Bool) → a && b && c ≡ true → (a ≡ true) × (b ≡ true) × (c ≡ true)
thirds a b c e =
    let h = halves (a && b) c e in
    let k = halves a b h.0 in
    (k.0, k.1, h.1)

pub quarters : (a b c d : Bool) → a && b && c && d ≡ true → (a ≡ true) × (b ≡ true) × (c ≡ true) × (d ≡ true)
quarters a b c d e =
    let h = halves (a && b && c) d e in
    let k = thirds a b c h.0 in
    (k.0, k.1, k.2, h.1)

-- One of two tests.
pub or_case : (P : Type 0) (a b : Bool) → (a ≡ true → P) → (b ≡ true → P) → a || b ≡ true → P
or_case P true b f g e = f refl
or_case P false b f g e = g e

pub or_none : (a b : Bool) → a || b ≡ false → (a ≡ false) × (b ≡ false)
or_none true b e = absurd (false≢true (sym e))
or_none false b e = (refl, e)

-- Low to high.
pub within_bounds : (low high n : ℕ) → within low high n ≡ true → (low ≤ n) × (n ≤ high)
unfolding within
within_bounds low high n e =
    let h = halves (leb low n) (leb n high) e in
    (leb-true low n h.0, leb-true n high h.1)

pub within-true : (low high n : ℕ) → low ≤ n → n ≤ high → within low high n ≡ true
unfolding within
within-true low high n p q = both (le-leb low n p) (le-leb n high q)

-- Equal lists.
pub same_equal : (xs ys : List ℕ) → same xs ys ≡ true → xs ≡ ys
unfolding same
same_equal [] [] e = refl
same_equal [] (y ∷ ys) e = absurd (false≢true e)
same_equal (x ∷ xs) [] e = absurd (false≢true e)
same_equal (x ∷ xs) (y ∷ ys) e =
    let h = halves (eqb x y) (same xs ys) e in
    λ i. eqb-true x y h.0 i ∷ same_equal xs ys h.1 i

pub same_itself : (xs : List ℕ) → same xs xs ≡ true
unfolding same
same_itself [] = refl
same_itself (x ∷ xs) = both (eq-eqb x x refl) (same_itself xs)

pub same_all_equal : (xs ys : List (List ℕ)) → same_all xs ys ≡ true → xs ≡ ys
unfolding same_all
same_all_equal [] [] e = refl
same_all_equal [] (y ∷ ys) e = absurd (false≢true e)
same_all_equal (x ∷ xs) [] e = absurd (false≢true e)
same_all_equal (x ∷ xs) (y ∷ ys) e =
    let h = halves (same x y) (same_all xs ys) e in
    λ i. same_equal x y h.0 i ∷ same_all_equal xs ys h.1 i

-- Lists of tests.
module _ {A : Type 0} where
  pub is_empty_nil : (xs : List A) → is_empty xs ≡ true → xs ≡ []
  unfolding is_empty
  is_empty_nil [] e = refl
  is_empty_nil (x ∷ xs) e = absurd (false≢true e)

  pub empty_length : (xs : List A) → is_empty xs ≡ eqb (length xs) 0
  unfolding is_empty
  empty_length [] = refl
  empty_length (x ∷ xs) = sym (ne_eqb (length (x ∷ xs)) 0 (λ e. omega arith))

  module _ (test : A → Bool) where
    pub all_cons : (x : A) (xs : List A) → all_are test (x ∷ xs) ≡ true → (test x ≡ true) × (all_are test xs ≡ true)
    unfolding all_are
    all_cons x xs e = halves (test x) (all_are test xs) e

    pub all_more : (x : A) (xs : List A) → test x ≡ true → all_are test xs ≡ true → all_are test (x ∷ xs) ≡ true
    unfolding all_are
    all_more x xs p q = both p q

    pub all_append : (xs ys : List A) → all_are test (xs ++ ys) ≡ all_are test xs && all_are test ys
    unfolding all_are
    all_append [] ys = refl
    all_append (x ∷ xs) ys = ap (λ b. test x && b) (all_append xs ys) ∙ sym (and_assoc (test x) (all_are test xs) (all_are test ys))

    pub all_behind : (xs ys : List A) → all_are test xs ≡ true → all_are test ys ≡ true → all_are test (xs ++ ys) ≡ true
    all_behind xs ys p q = all_append xs ys ∙ both p q

    pub all_snoc : (xs : List A) (x : A) → all_are test xs ≡ true → test x ≡ true → all_are test (xs ++ x ∷ []) ≡ true
    unfolding all_are
    all_snoc xs x p q = all_behind xs (x ∷ []) p (both q refl)

    pub all_halves : (xs ys : List A) → all_are test (xs ++ ys) ≡ true → (all_are test xs ≡ true) × (all_are test ys ≡ true)
    all_halves xs ys e = halves (all_are test xs) (all_are test ys) (rw all_append at e)

    pub all_split : (n : ℕ) (xs : List A) → all_are test xs ≡ true → (all_are test (take n xs) ≡ true) × (all_are test (drop n xs) ≡ true)
    all_split n xs e = all_halves (take n xs) (drop n xs) (rw (← take-append-drop n xs) at e)

    pub all_joined : (xss : List (List A)) → all_are test (joined xss) ≡ all_are (all_are test) xss
    unfolding all_are joined
    all_joined [] = refl
    all_joined (xs ∷ xss) = all_append xs (joined xss) ∙ ap (λ b. all_are test xs && b) (all_joined xss)

    pub all_member : {x : A} {xs : List A} → Memᴰ x xs → all_are test xs ≡ true → test x ≡ true
    all_member (Memᴰ.head {x = y} {xs = ys} q) e = ap test q ∙ (all_cons y ys e).0
    all_member (Memᴰ.tail {x = y} {xs = ys} m) e = all_member m (all_cons y ys e).1

    -- at any place, and past the end if the default passes
    pub all_at : (xs : List A) (d : A) → all_are test xs ≡ true → test d ≡ true → (k : ℕ) → test (get_or xs k d) ≡ true
    all_at [] d e p k = p
    all_at (x ∷ xs) d e p zero = (all_cons x xs e).0
    all_at (x ∷ xs) d e p (suc k) = all_at xs d (all_cons x xs e).1 p k

    pub all_set : (xs : List A) (k : ℕ) (v : A) → test v ≡ true → all_are test xs ≡ true → all_are test (set xs k v) ≡ true
    unfolding all_are
    all_set [] k v p e = refl
    all_set (x ∷ xs) zero v p e = both p (all_cons x xs e).1
    all_set (x ∷ xs) (suc k) v p e = let h = all_cons x xs e in both h.0 (all_set xs k v p h.1)

  -- each element that passes one test passes another
  pub all_weaken : (p q : A → Bool) → ((x : A) → p x ≡ true → q x ≡ true) → (xs : List A) → all_are p xs ≡ true → all_are q xs ≡ true
  unfolding all_are
  all_weaken p q h [] e = refl
  all_weaken p q h (x ∷ xs) e = let t = all_cons p x xs e in both (h x t.0) (all_weaken p q h xs t.1)

  -- and so after a step
  pub all_map : {B : Type 0} (p : A → Bool) (q : B → Bool) (f : A → B) → ((x : A) → p x ≡ true → q (f x) ≡ true) →
      (xs : List A) → all_are p xs ≡ true → all_are q (map f xs) ≡ true
  unfolding all_are
  all_map p q f h [] e = refl
  all_map p q f h (x ∷ xs) e = let t = all_cons p x xs e in both (h x t.0) (all_map p q f h xs t.1)

  pub all_unmap : {B : Type 0} (p : A → Bool) (q : B → Bool) (f : A → B) → ((x : A) → q (f x) ≡ true → p x ≡ true) →
      (xs : List A) → all_are q (map f xs) ≡ true → all_are p xs ≡ true
  unfolding all_are
  all_unmap p q f h [] e = refl
  all_unmap p q f h (x ∷ xs) e = let t = halves (q (f x)) (all_are q (map f xs)) e in both (h x t.0) (all_unmap p q f h xs t.1)

  pub all_both : (p q : A → Bool) (xs : List A) → all_are p xs ≡ true → all_are q xs ≡ true → all_are (λ x. p x && q x) xs ≡ true
  unfolding all_are
  all_both p q [] e e' = refl
  all_both p q (x ∷ xs) e e' =
      let t = all_cons p x xs e in
      let t' = all_cons q x xs e' in
      both (both t.0 t'.0) (all_both p q xs t.1 t'.1)

  -- where none passes, none does from a place on
  pub any_none : (test : A → Bool) (i : ℕ) (xs : List A) → any_is test xs ≡ false → any_is test (drop i xs) ≡ false
  unfolding any_is
  any_none test zero xs e = e
  any_none test (suc i) [] e = e
  any_none test (suc i) (x ∷ xs) e = any_none test i xs (or_none (test x) (any_is test xs) e).1

-- Whether one of a list of numbers passes, from a place on: a walk over it ends at one that does, and else goes on.
module _ (test : ℕ → Bool) (ns : List ℕ) (i : ℕ) where
  any_step : i < length ns → any_is test (drop i ns) ≡ test (get_or ns i 0) || any_is test (drop (i + 1) ns)
  unfolding any_is
  any_step h = rw (add-one, drop-cons ns i 0)

  pub any_stops : i < length ns → test (get_or ns i 0) ≡ true → any_is test (drop i ns) ≡ true
  any_stops h e = any_step h ∙ rw e

  pub any_goes_on : i < length ns → test (get_or ns i 0) ≡ false → any_is test (drop (i + 1) ns) ≡ any_is test (drop i ns)
  any_goes_on h e = sym (any_step h ∙ rw e)

  pub any_end : length ns ≤ i → any_is test (drop i ns) ≡ false
  unfolding any_is
  any_end h = ap (any_is test) (drop_of_length-le ns h)

-- as the library says it
pub any_listed : {A : Type 0} (test : A → Bool) (xs : List A) → list_any test xs ≡ any_is test xs
unfolding any_is
any_listed test [] = refl
any_listed test (x ∷ xs) = ap (λ t. test x || t) (any_listed test xs)
