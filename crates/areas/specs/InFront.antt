-- What a function that writes to the front of an area promises: a number, how many bytes, and the area.
use Rattle.std.specs.Prelude.{ℕ, ◌≡◌, List, [], length, Result, Ok, Err}
use Rattle.rules.specs.Numbers.{accepted}
use Rattle.rules.specs.Calls.{area_after}
use Rattle.rules.specs.Messages.Codec.{Outcome, refused, sound}
use Rattle.rules.specs.declared.refusals.Refusal.{Refusal}
use Rattle.rules.specs.Refusals.{answered}

unfoldable pub number_in : Outcome (List ℕ) → ℕ
number_in (refused n) = n
number_in (sound bytes) = accepted

unfoldable pub bytes_in : Outcome (List ℕ) → List ℕ
bytes_in (refused n) = []
bytes_in (sound bytes) = bytes

-- how many bytes an answer says
abbrev pub written : Result ℕ Refusal → ℕ
written (Ok n) = n
written (Err e) = 0

-- the bytes stand in front, and behind them what stood there
pub record InFront (o : Outcome (List ℕ)) (before : List ℕ) (r : Result ℕ Refusal) (after : List ℕ) : Type 0 where
  pub number : answered r ≡ number_in o
  pub len : written r ≡ length (bytes_in o)
  pub area : after ≡ area_after (bytes_in o) before
  pub same : length after ≡ length before
