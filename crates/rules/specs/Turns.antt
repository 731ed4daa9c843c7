-- What a call does, put together from rules: each writes bytes, sends messages, says what became of keys, and hands the state on.
use Rattle.std.specs.Prelude.{ℕ, Bool, List, [], ◌∷◌, ◌++◌}
use Rattle.rules.specs.Choice.{pick}
use Rattle.rules.specs.Messages.Forms.{Message}
use Rattle.rules.specs.Screen.{shown_all}
use Rattle.rules.specs.State.{Terms, State, with_terminal, with_screen}

-- the ways a key is used as a control
pub data Control : Type 0 where
  quote clear discard out_of_band edit : Control

-- What became of a key.
pub data Fate (C : Type 0) : Type 0 where
  -- it arrived; its attribute was then hello or immediate clear, or not
  arrived : C → Bool → Fate C
  control : Control → C → Fate C
  -- type-ahead was full
  crowded_out : C → Fate C
  -- a step took it, while a read with these terms was pending
  taken : C → Terms → Fate C
  tokened : C → Fate C
  -- by the clear rule, or by a Start Read's C
  cleared : C → Fate C
  -- with a partial token, at a completion
  lost : C → Fate C
  -- by editing
  edited : C → Fate C

pub record Turn (C : Type 0) : Type 0 where
  pub bytes : List ℕ
  pub messages : List (Message C)
  pub fates : List (Fate C)
  pub state : State C

abbrev pub Rule : Type 0 → Type 0
Rule C = State C → Turn C

module _ {C : Type 0} where
  infixr 20 ◌then◌
  -- nothing
  unfoldable pub still : Rule C
  still s = record { bytes = []; messages = []; fates = []; state = s }

  -- terminal bytes
  unfoldable pub writes : List ℕ → Rule C
  writes bs s =
      record {
        bytes = bs;
        messages = [];
        fates = [];
        state = with_terminal (with_screen (shown_all s.terminal.screen bs) s.terminal) s;
      }

  unfoldable pub sends : Message C → Rule C
  sends m s = record { bytes = []; messages = m ∷ []; fates = []; state = s }

  unfoldable pub tells : List (Fate C) → Rule C
  tells fs s = record { bytes = []; messages = []; fates = fs; state = s }

  unfoldable pub changes : (State C → State C) → Rule C
  changes f s = record { bytes = []; messages = []; fates = []; state = f s }

  -- a rule that looks at the state it begins with
  abbrev pub here : (State C → Rule C) → Rule C
  here f s = f s s

  -- the second's bytes, messages and fates behind the first's
  unfoldable pub behind : Turn C → Turn C → Turn C
  behind t u =
      record {
        bytes = t.bytes ++ u.bytes;
        messages = t.messages ++ u.messages;
        fates = t.fates ++ u.fates;
        state = u.state;
      }

  -- one rule, then the next from the state it left
  unfoldable pub ◌then◌ : Rule C → Rule C → Rule C
  (f then g) s = let t = f s in behind t (g t.state)

  -- a rule where a test holds, nothing where it does not
  unfoldable pub only : Bool → Rule C → Rule C
  only test f = pick test f still
