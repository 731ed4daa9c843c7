-- The bytes of a termination set as the rules have them, and its count within its array.
use Rattle.std.specs.Prelude.{ℕ, ◌≤◌, ◌≡◌, List, length, take}
use Rattle.rules.specs.Messages.Codec.{set_size}
use Rattle.sets.specs.declared.Set.{Set}

unfoldable pub set_of : Set → List ℕ
set_of s = take s.len s.bytes

pub record CountedSet (s : Set) : Type 0 where
  pub size : length s.bytes ≡ set_size
  pub within : s.len ≤ set_size
