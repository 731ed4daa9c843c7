-- What the tests of a message's fields promise.
use Rattle.std.specs.Prelude.{ℕ, ◌≡◌, Bool, true, List, length}
use Rattle.rules.specs.Messages.Codec.{all_bytes, fits_held}
use Rattle.message.specs.declared.Message.{Message}
use Rattle.message.specs.Found.{held_in}
use Rattle.writing.specs.Spans.{spans_of, inside}

-- of a message whose spans lie in the slice
pub record FitsIn (s : List ℕ) (m : Message) (r : Bool) : Type 0 where
  pub same : inside (length s) (spans_of m) ≡ true → r ≡ fits_held (held_in s m)

-- the same whatever bytes the spans have
pub record Fits (m : Message) (r : Bool) : Type 0 where
  pub each : (s : List ℕ) → all_bytes s ≡ true → FitsIn s m r
