-- What a call asks of a line: the bounds of its state, and each count within its array. `fresh` has them, and every call keeps them.
use Rattle.std.specs.Prelude.{ℕ, ◌≤◌, ◌≡◌, List, length, Option, Some, None}
use Rattle.rules.specs.Numbers.{code_count, input_size, type_ahead_size, token_size}
use Rattle.rules.specs.Bounds as rules
use Rattle.rules.specs.State as state
use Rattle.sets.specs.View.{CountedSet}
use Rattle.line.specs.declared.Typed.{Typed}
use Rattle.line.specs.declared.Reading.{Reading}
use Rattle.line.specs.declared.Flow.{Flow}
use Rattle.line.specs.declared.Line.{Line}
use Rattle.line.specs.View.{view}

-- The arrays' lengths are their types'; here they stand beside the counts, where a proof finds them.
pub record CountedTyped (t : Typed) : Type 0 where
  pub keys_length : t.keys_len ≤ type_ahead_size
  pub token : length t.token ≡ token_size
  pub token_length : t.token_len ≤ token_size

-- how many characters a pending read has; none where no read is pending
abbrev pub input_len_of : Option Reading → ℕ
input_len_of None = 0
input_len_of (Some r) = r.input_len

pub record CountedFlow (f : Flow) : Type 0 where
  pub typed : CountedTyped f.typed
  pub within : input_len_of f.pending ≤ input_size

-- a read and the text that is lent for it
pub record CountedReading (r : Reading) (text : List ℕ) : Type 0 where
  pub within : r.input_len ≤ input_size
  pub full : length text ≡ input_size

pub record Counted (l : Line) : Type 0 where
  pub table : length l.attributes ≡ code_count
  pub keys : length l.keys ≡ type_ahead_size
  pub text : length l.text ≡ input_size
  pub set : CountedSet l.set
  pub last_set : CountedSet l.last_set
  pub prompt : l.terms.prompt_len ≤ input_size
  pub flow : CountedFlow l.flow

pub record Bounded (l : Line) : Type 0 where
  pub state : rules.Bounded (view l)
  pub counted : Counted l

pub record IsFresh (l : Line) : Type 0 where
  pub state : view l ≡ state.fresh
  pub bounded : Bounded l
