-- Hex digits.
use Rattle.std.specs.Prelude.{ℕ, ◌+◌, ◌-◌, Bool, ltb, Option, Some, None}
use Rattle.rules.specs.Choice.{pick, within}
use Rattle.rules.specs.State.{first_small}
use Rattle.rules.specs.Editing.{first_digit, first_capital, is_digit}

abbrev pub base : ℕ
base = 16

-- the largest value of a digit, and the first that a letter stands for
abbrev pub largest : ℕ
largest = base - 1

abbrev pub ten : ℕ
ten = 10

-- the codes that stand so far below A and a, and the codes of A to F and of a to f
abbrev pub below_capitals : ℕ
below_capitals = first_capital - ten

abbrev pub below_small : ℕ
below_small = first_small - ten

abbrev pub is_hex_capital : ℕ → Bool
is_hex_capital c = within first_capital (below_capitals + largest) c

abbrev pub is_hex_small : ℕ → Bool
is_hex_small c = within first_small (below_small + largest) c

-- 0 to 9, A to F or a to f, and no other code
unfoldable pub value_of : ℕ → Option ℕ
value_of c =
    pick (is_digit c) (Some (c - first_digit))
    (pick (is_hex_capital c) (Some (c - below_capitals))
    (pick (is_hex_small c) (Some (c - below_small))
    None))

-- capital
unfoldable pub digit_of : ℕ → ℕ
digit_of v = pick (ltb v ten) (first_digit + v) (below_capitals + v)
