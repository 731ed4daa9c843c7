-- What holds of every state from a fresh line on, and of what a call writes, over the names of the sizes.
use Rattle.std.specs.Prelude.{ℕ, ◌≤◌, ◌<◌, ◌≡◌, Bool, true, ◌&&◌, List, [], ◌∷◌, map, ltb, length}
use Rattle.std.proofs.Math.Option.{Option, none, some}
use Rattle.rules.specs.Choice.{all_are}
use Rattle.rules.specs.Numbers.{code_count, input_size, type_ahead_size, token_size, terminal_area, message_area, top_column, top_dropped}
use Rattle.rules.specs.Messages.Layout.{byte_values, word_values}
use Rattle.rules.specs.Messages.Forms.{Message}
use Rattle.rules.specs.Messages.Parameters.{seven_bits}
use Rattle.rules.specs.Messages.Codec.{set_size, sound, all_bytes, read}
use Rattle.rules.specs.StartRead.{last_underflow, last_disable}
use Rattle.rules.specs.Screen.{positions}
use Rattle.rules.specs.State.{Host, Terminal, Typed, Terms, Reading, State, codes}
use Rattle.rules.specs.Editing.{end_of}
use Rattle.rules.specs.Calls.{Event, key, step, tick, message, load, Answer, sent_bytes, message_bytes}

-- an attribute has seven bits
unfoldable pub is_attribute : ℕ → Bool
is_attribute a = ltb a seven_bits

pub record BoundedHost (h : Host) : Type 0 where
  pub table : length h.attributes ≡ code_count
  pub attributes : all_are is_attribute h.attributes ≡ true
  pub set_length : length h.last_set ≤ set_size
  pub set_bytes : all_bytes h.last_set ≡ true
  pub largest_read : h.largest_read ≤ input_size

pub record BoundedTerminal (t : Terminal) : Type 0 where
  pub column : t.screen.column ≤ top_column
  pub line : t.screen.line < positions
  pub dropped : t.dropped ≤ top_dropped

pub record BoundedTyped (t : Typed ℕ) : Type 0 where
  pub type_ahead : length t.type_ahead ≤ type_ahead_size
  pub token : length t.token ≤ token_size
  pub key_bytes : all_bytes (map (λ k. k.char) t.type_ahead) ≡ true
  pub token_bytes : all_bytes t.token ≡ true

pub record BoundedTerms (t : Terms) : Type 0 where
  pub largest : t.max_length ≤ input_size
  pub prompt : length t.prompt ≤ t.end_of_prompt
  pub set_length : length t.set ≤ set_size
  pub set_bytes : all_bytes t.set ≡ true
  pub underflow : t.underflow ≤ last_underflow
  pub disables : t.disables ≤ last_disable
  pub timeout : t.timeout < word_values

-- a pending read has room for one character more, and is not yet due
pub record BoundedReading (r : Reading ℕ) : Type 0 where
  pub terms : BoundedTerms r.terms
  pub room : end_of r < r.terms.max_length
  pub low_water : r.low_water ≤ end_of r
  pub input_bytes : all_bytes r.input ≡ true
  pub idle : r.terms.timed ≡ true → 0 < r.terms.timeout → r.idle < r.terms.timeout
  pub display_column : r.display_column ≤ top_column

abbrev pub BoundedRead : Option (Reading ℕ) → Type 0
BoundedRead none = Unit {0}
BoundedRead (some r) = BoundedReading r

pub record Bounded (s : State ℕ) : Type 0 where
  pub host : BoundedHost s.host
  pub terminal : BoundedTerminal s.terminal
  pub typed : BoundedTyped s.typed
  pub pending_read : BoundedRead s.pending_read

-- a call's key and bytes are bytes
unfoldable pub is_byte_event : Event ℕ → Bool
is_byte_event (key c) = ltb c byte_values
is_byte_event step = true
is_byte_event tick = true
is_byte_event (message bytes) = all_bytes bytes
is_byte_event (load own site) = all_bytes own && all_bytes site

-- every message sent reads as what was meant
abbrev pub AllMeant : List (Message ℕ) → Type 0
AllMeant [] = Unit {0}
AllMeant (m ∷ ms) = (read (sent_bytes m) ≡ sound m) × AllMeant ms

-- what a call leaves and writes
pub record Within (a : Answer ℕ) : Type 0 where
  pub state : Bounded a.turn.state
  pub terminal : length a.turn.bytes ≤ terminal_area
  pub messages : length (message_bytes codes a.turn) ≤ message_area
  pub meant : AllMeant a.turn.messages

abbrev pub AllWithin : List (Answer ℕ) → Type 0
AllWithin [] = Unit {0}
AllWithin (a ∷ rest) = Within a × AllWithin rest
