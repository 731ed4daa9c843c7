-- The small words the rules are written in: a choice by a test, the first row of a table that applies, tests of numbers, and lists of them.
use Rattle.std.specs.Prelude.{ℕ, Bool, true, false, ◌&&◌, ◌||◌, List, [], ◌∷◌, ◌++◌, leb, eqb}

-- the first where the test holds, the second where it does not
unfoldable pub pick : {A : Type 0} → Bool → A → A → A
pick true a b = a
pick false a b = b

-- A row of a table: its number is given when its test holds.
pub record Row : Type 0 where
  pub number : ℕ
  pub applies : Bool

infix 68 ◌when◌
abbrev pub ◌when◌ : ℕ → Bool → Row
number when test = record { number = number; applies = test }

-- What the first row that applies answers with its number; where none applies, this.
unfoldable pub first_row_answer : {A : Type 0} → (ℕ → A) → A → List Row → A
first_row_answer answer otherwise [] = otherwise
first_row_answer answer otherwise (r ∷ rows) = pick r.applies (answer r.number) (first_row_answer answer otherwise rows)

-- low to high, both included
unfoldable pub within : ℕ → ℕ → ℕ → Bool
within low high n = leb low n && leb n high

-- a flag of one bit, and whether it is set
abbrev pub off : ℕ
off = 0

abbrev pub on : ℕ
on = 1

abbrev pub is_on : ℕ → Bool
is_on flag = eqb flag on

abbrev pub is_off : ℕ → Bool
is_off flag = eqb flag off

-- a flag as a number
unfoldable pub bit : Bool → ℕ
bit test = pick test on off

module _ {A : Type 0} where
  unfoldable pub is_empty : List A → Bool
  is_empty [] = true
  is_empty (x ∷ xs) = false

  unfoldable pub all_are : (A → Bool) → List A → Bool
  all_are test [] = true
  all_are test (x ∷ xs) = test x && all_are test xs

  unfoldable pub any_is : (A → Bool) → List A → Bool
  any_is test [] = false
  any_is test (x ∷ xs) = test x || any_is test xs

  unfoldable pub joined : List (List A) → List A
  joined [] = []
  joined (x ∷ xs) = x ++ joined xs

-- equal lists of numbers
unfoldable pub same : List ℕ → List ℕ → Bool
same [] [] = true
same [] (y ∷ ys) = false
same (x ∷ xs) [] = false
same (x ∷ xs) (y ∷ ys) = eqb x y && same xs ys

unfoldable pub same_all : List (List ℕ) → List (List ℕ) → Bool
same_all [] [] = true
same_all [] (y ∷ ys) = false
same_all (x ∷ xs) [] = false
same_all (x ∷ xs) (y ∷ ys) = same x y && same_all xs ys
