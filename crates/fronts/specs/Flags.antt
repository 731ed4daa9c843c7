-- Fields of FLAGS in one number, each a value and how many values its bits have.
use Rattle.std.specs.Prelude.{ℕ, ◌≡◌, true, ◌+◌, ◌*◌, ◌<◌, List, [], ◌∷◌, ltb}
use Rattle.rules.specs.Choice.{all_are}

-- the first stands in bit 0, the next one above it
unfoldable pub packed : List (ℕ × ℕ) → ℕ
packed [] = 0
packed (f ∷ fs) = f.0 + f.1 * packed fs

-- the number stands in four bytes, and each field has bits
pub record Packs (fs : List (ℕ × ℕ)) : Type 0 where
  pub small : packed fs < 4294967296
  pub filled : all_are (λ f. ltb 0 f.1) fs ≡ true
