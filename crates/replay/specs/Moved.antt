-- A settings record that was moved: what stands in front of the area says the same.
use Rattle.std.specs.Prelude.{ℕ, ◌≡◌, List, take, Result}
use Rattle.rules.specs.Numbers.{accepted}
use Rattle.rules.specs.Settings.{meaning_of}
use Rattle.rules.specs.declared.refusals.Refusal.{Refusal}
use Rattle.rules.specs.Refusals.{answered}
use Rattle.areas.specs.InFront.{written}

-- unless it was refused
pub record SaysTheSame (bytes : List ℕ) (r : Result ℕ Refusal) (after : List ℕ) : Type 0 where
  pub means : answered r ≡ accepted → meaning_of (take (written r) after) ≡ meaning_of bytes
