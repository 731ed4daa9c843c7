-- Bytes put into a lent area, one behind the other. Where there is no room, nothing changes.
use Rattle.std.specs.Prelude.{ℕ, ◌+◌, List, [], ◌∷◌, ltb, length, set}
use Rattle.rules.specs.Choice.{pick}

-- an area and the place of the next byte
pub record Spot : Type 0 where
  pub area : List ℕ
  pub at : ℕ

unfoldable pub put : ℕ → Spot → Spot
put b s = pick (ltb s.at (length s.area)) (record { area = set s.area s.at b; at = s.at + 1 }) s

unfoldable pub puts : List ℕ → Spot → Spot
puts [] s = s
puts (b ∷ bs) s = puts bs (put b s)

abbrev pub spot : List ℕ → ℕ → Spot
spot area at = record { area = area; at = at }
