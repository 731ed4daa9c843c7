-- What finding the marks of a deletion promises: the marks, and how many columns are worked out for them.
use Rattle.std.specs.Prelude.{ℕ, ◌-◌, min, ◌≡◌, Bool, List, eqb, length, drop}
use Rattle.rules.specs.Choice.{pick, any_is}
use Rattle.rules.specs.Screen.{HT, marks_behind}
use Rattle.screen.specs.declared.RubOut.{RubOut}

-- a count, as far as a usize goes
abbrev pub capped : ℕ → ℕ
capped n = min n 0xFFFF_FFFF_FFFF_FFFF

unfoldable pub is_tab : ℕ → Bool
is_tab n = eqb n HT

-- the first character whose column is worked out: the very first if a tab stands behind the kept ones, else the first behind them
unfoldable pub first_worked_out : ℕ → List ℕ → ℕ
first_worked_out kept ns = pick (any_is is_tab (drop kept ns)) 0 kept

pub record Finds (kept column : ℕ) (ns : List ℕ) (found : RubOut) : Type 0 where
  pub marks : found.marks ≡ capped (marks_behind kept column ns)
  pub columns : found.columns ≡ length ns - first_worked_out kept ns
