-- A message behind its length, as a line sends it.
use Rattle.std.specs.Prelude.{ℕ, ◌≤◌, ◌≡◌, true, List, [], ◌++◌, length}
use Rattle.rules.specs.Calls.{sent_bytes}
use Rattle.rules.specs.Messages.Layout.{word_bytes, bytes_of, framed}
use Rattle.rules.specs.Messages.Forms as forms
use Rattle.rules.specs.Messages.Codec.{message, set_size}
use Rattle.message.specs.declared.Message.{Message}
use Rattle.message.specs.Found.{held_in}
use Rattle.areas.specs.Writes.{Writes}
use Rattle.areas.specs.declared.Writer.{Writer}
use Rattle.fronts.specs.Front.{front_bytes}
use Rattle.writing.specs.Spans.{spans_of, spanned_size, inside}

-- a message that has no parameters, whose spans lie in the slice, and what it is to the rules
pub record Sendable (s : List ℕ) (m : Message) (x : forms.Message ℕ) : Type 0 where
  pub held : held_in s m ≡ message x
  pub listless : x.parameters ≡ []
  pub set : length x.set ≤ set_size
  pub lie : inside (length s) (spans_of m) ≡ true

-- Such a message was put as the rules send it. Of any message its length was put, by the lengths of its spans, and its bytes up to
-- its parameter list, which the caller puts behind them.
pub record Frames (s : List ℕ) (m : Message) (old new : Writer) : Type 0 where
  pub sent : (x : forms.Message ℕ) → Sendable s m x → Writes (framed (sent_bytes x)) old new
  pub front : Writes (bytes_of word_bytes (spanned_size (spans_of m)) ++ front_bytes (held_in s m)) old new
