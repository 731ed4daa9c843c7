-- The areas at their full length, of which a call is lent a front.
use Rattle.std.specs.Prelude.{ℕ, ◌≤◌, List, length}

-- the longest area that a script can ask for
abbrev pub longest : ℕ
longest = 65535

pub record Areas (t m : List ℕ) : Type 0 where
  pub terminal : longest ≤ length t
  pub messages : longest ≤ length m
