-- The line's state, and the typed characters in it.
use Rattle.std.specs.Prelude.{ℕ, ◌-◌, Bool, true, false, not, ◌&&◌, ◌||◌, List, [], eqb, replicate}
use Rattle.std.proofs.Math.Option.{Option, none}
use Rattle.rules.specs.Choice.{pick, within}
use Rattle.rules.specs.Numbers.{input_size, code_count}
use Rattle.rules.specs.StartRead.{universal}
use Rattle.rules.specs.Screen.{Screen}

-- Typed characters. The rules are written over any type of them, so that a claim can follow a key through a history.
pub record Characters (C : Type 0) : Type 0 where
  pub code : C → ℕ
  pub raise : C → C
  -- a character of the text that a Start Read brings
  pub given : ℕ → C

-- the small letters of ASCII
abbrev pub first_small : ℕ
first_small = 97

abbrev pub last_small : ℕ
last_small = 122

abbrev pub is_small : ℕ → Bool
is_small n = within first_small last_small n

-- small accents: the small letters of ISO 8859-1 above ASCII whose capital it has too. It has none for 223 and 255; the division sign is no letter
abbrev pub first_small_accent : ℕ
first_small_accent = 224

abbrev pub last_small_accent : ℕ
last_small_accent = 254

abbrev pub division_sign : ℕ
division_sign = 247

abbrev pub is_small_accent : ℕ → Bool
is_small_accent n = within first_small_accent last_small_accent n && not (eqb n division_sign)

-- what lies between a small letter and its capital
abbrev pub small_shift : ℕ
small_shift = 32

-- raised form: 97 to 122, and 224 to 254 except 247, less 32; others themselves
unfoldable pub raised : ℕ → ℕ
raised n = pick (is_small n || is_small_accent n) (n - small_shift) n

-- the characters that a program has: their codes
abbrev pub codes : Characters ℕ
codes = record { code = λ n. n; raise = raised; given = λ n. n }

-- the four characteristics that are switches
pub record Switches : Type 0 where
  pub raising : Bool
  pub echoing : Bool
  pub recognising : Bool
  pub prompting : Bool

-- what is set of the line, by the host or by loading
pub record Host : Type 0 where
  -- Initiate was accepted
  pub initiated : Bool
  pub switches : Switches
  -- an attribute for each character code
  pub attributes : List ℕ
  -- the last set given with ZZ 1 or loaded, universal if none was
  pub last_set : List ℕ
  -- the largest MAX-LENGTH that a Start Read may have
  pub largest_read : ℕ

-- what is known of the terminal
pub record Terminal : Type 0 where
  pub screen : Screen
  pub discarding : Bool
  pub quoting : Bool
  -- a Write locked the line: a step does nothing
  pub locked : Bool
  -- the skip-linefeed mark: of the next own bytes of a Write a first LF is left out
  pub skip_linefeed : Bool
  pub dropped : ℕ

-- a key that waits
pub record Key (C : Type 0) : Type 0 where
  pub char : C
  pub quoted : Bool

-- typed and not yet in a read
pub record Typed (C : Type 0) : Type 0 where
  pub type_ahead : List (Key C)
  -- a partial or held escape token
  pub token : List C

-- what is fixed for the whole of a read
pub record Terms : Type 0 where
  -- UU and DDD
  pub underflow : ℕ
  pub disables : ℕ
  pub raises : Bool
  pub recognises : Bool
  pub echoes : Bool
  -- T
  pub terminator_echo : Bool
  -- Q and TIMEOUT
  pub timed : Bool
  pub timeout : ℕ
  pub set : List ℕ
  pub max_length : ℕ
  pub end_of_prompt : ℕ
  -- the prompt as it is displayed
  pub prompt : List ℕ
  -- the note of column and line
  pub column : ℕ
  pub line : ℕ

-- a pending read
pub record Reading (C : Type 0) : Type 0 where
  pub terms : Terms
  -- what stands after END-OF-PROMPT
  pub input : List C
  pub low_water : ℕ
  -- the input's first character is the LF that F hides
  pub hidden_lf : Bool
  -- the column where the data's display last began
  pub display_column : ℕ
  pub idle : ℕ

pub record State (C : Type 0) : Type 0 where
  pub host : Host
  pub terminal : Terminal
  pub typed : Typed C
  pub pending_read : Option (Reading C)

-- A fresh line.
unfoldable pub fresh_switches : Switches
fresh_switches = record { raising = false; echoing = true; recognising = false; prompting = false }

unfoldable pub fresh_host : Host
fresh_host =
    record { initiated = false; switches = fresh_switches; attributes = replicate code_count 0; last_set = universal; largest_read = input_size }

unfoldable pub fresh_terminal : Terminal
fresh_terminal =
    record {
      screen = record { column = 0; line = 0; after_cr = false };
      discarding = false;
      quoting = false;
      locked = false;
      skip_linefeed = false;
      dropped = 0;
    }

unfoldable pub fresh : {C : Type 0} → State C
fresh = record { host = fresh_host; terminal = fresh_terminal; typed = record { type_ahead = []; token = [] }; pending_read = none }

-- One part changed.
abbrev pub with_switches : Switches → Host → Host
with_switches x h =
    record { initiated = h.initiated; switches = x; attributes = h.attributes; last_set = h.last_set; largest_read = h.largest_read }

abbrev pub with_attributes : List ℕ → Host → Host
with_attributes x h =
    record { initiated = h.initiated; switches = h.switches; attributes = x; last_set = h.last_set; largest_read = h.largest_read }

abbrev pub with_last_set : List ℕ → Host → Host
with_last_set x h =
    record { initiated = h.initiated; switches = h.switches; attributes = h.attributes; last_set = x; largest_read = h.largest_read }

abbrev pub with_initiated : Bool → Host → Host
with_initiated x h =
    record { initiated = x; switches = h.switches; attributes = h.attributes; last_set = h.last_set; largest_read = h.largest_read }

module _ {C : Type 0} where
  abbrev pub with_host : Host → State C → State C
  with_host x s = record { host = x; terminal = s.terminal; typed = s.typed; pending_read = s.pending_read }

  abbrev pub with_terminal : Terminal → State C → State C
  with_terminal x s = record { host = s.host; terminal = x; typed = s.typed; pending_read = s.pending_read }

  abbrev pub with_typed : List (Key C) → List C → State C → State C
  with_typed keys token s =
      record { host = s.host; terminal = s.terminal; typed = record { type_ahead = keys; token = token }; pending_read = s.pending_read }

  abbrev pub with_token : List C → State C → State C
  with_token token s = with_typed s.typed.type_ahead token s

  abbrev pub with_read : Option (Reading C) → State C → State C
  with_read x s = record { host = s.host; terminal = s.terminal; typed = s.typed; pending_read = x }

abbrev pub with_screen : Screen → Terminal → Terminal
with_screen x t =
    record { screen = x; discarding = t.discarding; quoting = t.quoting; locked = t.locked; skip_linefeed = t.skip_linefeed; dropped = t.dropped }

abbrev pub with_discarding : Bool → Terminal → Terminal
with_discarding x t =
    record { screen = t.screen; discarding = x; quoting = t.quoting; locked = t.locked; skip_linefeed = t.skip_linefeed; dropped = t.dropped }

abbrev pub with_quoting : Bool → Terminal → Terminal
with_quoting x t =
    record { screen = t.screen; discarding = t.discarding; quoting = x; locked = t.locked; skip_linefeed = t.skip_linefeed; dropped = t.dropped }

abbrev pub with_locked : Bool → Terminal → Terminal
with_locked x t =
    record { screen = t.screen; discarding = t.discarding; quoting = t.quoting; locked = x; skip_linefeed = t.skip_linefeed; dropped = t.dropped }

abbrev pub with_skip_linefeed : Bool → Terminal → Terminal
with_skip_linefeed x t =
    record { screen = t.screen; discarding = t.discarding; quoting = t.quoting; locked = t.locked; skip_linefeed = x; dropped = t.dropped }

abbrev pub with_dropped : ℕ → Terminal → Terminal
with_dropped x t =
    record { screen = t.screen; discarding = t.discarding; quoting = t.quoting; locked = t.locked; skip_linefeed = t.skip_linefeed; dropped = x }

module _ {C : Type 0} where
  abbrev pub with_input : List C → Reading C → Reading C
  with_input x r =
      record { terms = r.terms; input = x; low_water = r.low_water; hidden_lf = r.hidden_lf; display_column = r.display_column; idle = r.idle }

  abbrev pub with_display_column : ℕ → Reading C → Reading C
  with_display_column x r =
      record { terms = r.terms; input = r.input; low_water = r.low_water; hidden_lf = r.hidden_lf; display_column = x; idle = r.idle }

  abbrev pub with_idle : ℕ → Reading C → Reading C
  with_idle x r =
      record { terms = r.terms; input = r.input; low_water = r.low_water; hidden_lf = r.hidden_lf; display_column = r.display_column; idle = x }
