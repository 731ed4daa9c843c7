-- The table of refusals, a row at a time.
use mathlib.Core.Path.{◌≡◌, refl, sym}
use Prim.Native.Nat.{ℕ}
use mathlib.Core.Bool.{Bool, true, false, not}
use mathlib.Core.List.{List, ◌∷◌}
use Rattle.rules.specs.Choice.{Row, pick, ◌when◌, first_row_answer}
use Rattle.rules.specs.Numbers.{accepted}
use Rattle.line.specs.Refusals.{row}

module _ (number : ℕ) (passed : Bool) (rows : List Row) where
  -- the first row that applies
  pub row_stops : {n : ℕ} → n ≡ row number passed → (n ≡ accepted → ⊥) → n ≡ first_row_answer (λ k. k) accepted (number when not passed ∷ rows)
  unfolding row first_row_answer pick
  row_stops {n} e some = by_test passed e
    where
      by_test : (b : Bool) → n ≡ pick (not b) number accepted → n ≡ pick (not b) number (first_row_answer (λ k. k) accepted rows)
      by_test true f = absurd (some f)
      by_test false f = f

  -- one that does not
  pub row_passes : (number ≡ accepted → ⊥) → accepted ≡ row number passed →
      first_row_answer (λ k. k) accepted rows ≡ first_row_answer (λ k. k) accepted (number when not passed ∷ rows)
  unfolding row first_row_answer pick
  row_passes some e = by_test passed e
    where
      by_test : (b : Bool) → accepted ≡ pick (not b) number accepted → first_row_answer (λ k. k) accepted rows ≡ pick (not b) number (first_row_answer (λ k. k) accepted rows)
      by_test true f = refl
      by_test false f = absurd (some (sym f))
