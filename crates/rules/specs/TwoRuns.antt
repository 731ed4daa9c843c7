-- Demand 3: two runs that differ only in hidden typed characters look the same to everyone but the host that reads DATA.
pub mod Examples
use Rattle.std.specs.Prelude.{ℕ, zero, suc, ◌≡◌, Bool, true, false, not, ◌&&◌, ◌||◌, List, [], ◌∷◌, map, eqb, length}
use Rattle.std.specs.Bool.{beq}
use Rattle.rules.specs.Choice.{pick, within, all_are, joined, same_all}
use Rattle.rules.specs.Messages.Forms.{Message, read_data}
use Rattle.rules.specs.Screen.{last_mark, last_high_mark}
use Rattle.rules.specs.StartRead.{in_set}
use Rattle.rules.specs.Editing.{is_word}
use Rattle.rules.specs.State.{Characters, Terms, raised, codes}
use Rattle.rules.specs.Turns.{Control, quote, clear, discard, out_of_band, edit}
use Rattle.rules.specs.Turns.{Fate, arrived, control, crowded_out, taken, tokened, cleared, lost, edited}
use Rattle.rules.specs.Messages.Layout.{framed}
use Rattle.rules.specs.Calls.{Event, key, step, tick, message, load, Call, Answer, map_text, sent_bytes, message_bytes, run}

-- Two lists of calls.

abbrev pub key_event : ℕ
key_event = 0

abbrev pub step_event : ℕ
step_event = 1

abbrev pub tick_event : ℕ
tick_event = 2

abbrev pub message_event : ℕ
message_event = 3

abbrev pub load_event : ℕ
load_event = 4

unfoldable pub event_kind : {C : Type 0} → Event C → ℕ
event_kind (key c) = key_event
event_kind step = step_event
event_kind tick = tick_event
event_kind (message bytes) = message_event
event_kind (load own site) = load_event

-- the lists of bytes that come with it
unfoldable pub event_bytes : {C : Type 0} → Event C → List (List ℕ)
event_bytes (key c) = []
event_bytes step = []
event_bytes tick = []
event_bytes (message bytes) = bytes ∷ []
event_bytes (load own site) = own ∷ site ∷ []

-- a key's code; no other event has one
unfoldable pub code_of : Event ℕ → ℕ
code_of (key n) = n
code_of step = 0
code_of tick = 0
code_of (message bytes) = 0
code_of (load own site) = 0

-- calls that agree but for a key's code; lent areas have the same lengths
unfoldable pub agree : Call ℕ → Call ℕ → Bool
agree c d =
    eqb c.terminal d.terminal &&
    eqb c.messages d.messages &&
    eqb (event_kind c.event) (event_kind d.event) &&
    same_all (event_bytes c.event) (event_bytes d.event)

-- the runs differ only in some typed characters
unfoldable pub alike : List (Call ℕ) → List (Call ℕ) → Bool
alike [] [] = true
alike [] (d ∷ ds) = false
alike (c ∷ cs) [] = false
alike (c ∷ cs) (d ∷ ds) = agree c d && alike cs ds

-- the key at a place of the list is changed
unfoldable pub changed_at : List (Call ℕ) → List (Call ℕ) → ℕ → Bool
changed_at [] ds n = false
changed_at (c ∷ cs) [] n = false
changed_at (c ∷ cs) (d ∷ ds) zero = not (eqb (code_of c.event) (code_of d.event))
changed_at (c ∷ cs) (d ∷ ds) (suc n) = changed_at cs ds n

-- a test of the two codes of each changed key
unfoldable pub each_changed : (ℕ → ℕ → Bool) → List (Call ℕ) → List (Call ℕ) → Bool
each_changed test [] ds = true
each_changed test (c ∷ cs) [] = true
each_changed test (c ∷ cs) (d ∷ ds) =
    pick (eqb (code_of c.event) (code_of d.event)) true (test (code_of c.event) (code_of d.event)) &&
    each_changed test cs ds

-- a printing mark, 33 to 126 or 161 to 254: a mark other than the space and the no-break space (160)
abbrev pub first_printing : ℕ
first_printing = 33

abbrev pub first_high_printing : ℕ
first_high_printing = 161

unfoldable pub is_printing : ℕ → Bool
is_printing n = within first_printing last_mark n || within first_high_printing last_high_mark n

unfoldable pub both_printing : ℕ → ℕ → Bool
both_printing m n = is_printing m && is_printing n

-- word class: ASCII letter or digit, or neither
unfoldable pub same_class : ℕ → ℕ → Bool
same_class m n = beq (is_word m) (is_word n)

-- What becomes of a key, by its place in the list.

-- a character that knows where it came from
pub data Placed : Type 0 where
  typed_at : ℕ → ℕ → Placed
  preloaded : ℕ → Placed

unfoldable pub code_in : Placed → ℕ
code_in (typed_at place n) = n
code_in (preloaded n) = n

unfoldable pub raised_in : Placed → Placed
raised_in (typed_at place n) = typed_at place (raised n)
raised_in (preloaded n) = preloaded (raised n)

abbrev pub placed_codes : Characters Placed
placed_codes = record { code = code_in; raise = raised_in; given = preloaded }

unfoldable pub placed_event : ℕ → Event ℕ → Event Placed
placed_event place (key n) = key (typed_at place n)
placed_event place step = step
placed_event place tick = tick
placed_event place (message bytes) = message bytes
placed_event place (load own site) = load own site

-- the same calls, each key with its place, counted from a number
unfoldable pub placed : ℕ → List (Call ℕ) → List (Call Placed)
placed n [] = []
placed n (c ∷ cs) =
    record { terminal = c.terminal; messages = c.messages; event = placed_event n c.event } ∷ placed (suc n) cs

-- all that became of keys in the run of the rules from a fresh line
unfoldable pub history : List (Call ℕ) → List (Fate Placed)
history cs = joined (map (λ a. a.turn.fates) (run placed_codes (placed 0 cs)))

-- a test of what became of a key; of the other fates nothing is asked
unfoldable pub fate_test : {C : Type 0} → (C → Bool → Bool) → (Control → C → Bool) → (C → Terms → Bool) → (C → Bool) → Fate C → Bool
fate_test on_arrived on_control on_taken on_token (arrived c band) = on_arrived c band
fate_test on_arrived on_control on_taken on_token (control purpose c) = on_control purpose c
fate_test on_arrived on_control on_taken on_token (crowded_out c) = true
fate_test on_arrived on_control on_taken on_token (taken c terms) = on_taken c terms
fate_test on_arrived on_control on_taken on_token (tokened c) = on_token c
fate_test on_arrived on_control on_taken on_token (cleared c) = true
fate_test on_arrived on_control on_taken on_token (lost c) = true
fate_test on_arrived on_control on_taken on_token (edited c) = true

-- of one fate alone
abbrev pub if_arrived : {C : Type 0} → (C → Bool → Bool) → Fate C → Bool
if_arrived test = fate_test test (λ purpose c. true) (λ c terms. true) (λ c. true)

abbrev pub if_control : {C : Type 0} → (Control → C → Bool) → Fate C → Bool
if_control test = fate_test (λ c band. true) test (λ c terms. true) (λ c. true)

abbrev pub if_taken : {C : Type 0} → (C → Terms → Bool) → Fate C → Bool
if_taken test = fate_test (λ c band. true) (λ purpose c. true) test (λ c. true)

abbrev pub if_tokened : {C : Type 0} → (C → Bool) → Fate C → Bool
if_tokened test = fate_test (λ c band. true) (λ purpose c. true) (λ c terms. true) test

unfoldable pub is_out_of_band : Control → Bool
is_out_of_band quote = false
is_out_of_band clear = false
is_out_of_band discard = false
is_out_of_band out_of_band = true
is_out_of_band edit = false

-- The suppositions of one run, over the test that says which characters are changed.
module _ {C : Type 0} (code : C → ℕ) (changed : C → Bool) where
  -- it is not out-of-band when it arrives
  unfoldable pub in_band : Fate C → Bool
  in_band = if_arrived (λ c band. not (changed c && band))

  -- arrival rule 2 does not act on it: weaker, since a quoted key may have the attribute
  unfoldable pub unacted : Fate C → Bool
  unacted = if_control (λ purpose c. not (changed c && is_out_of_band purpose))

  -- never taken by an echoing read
  unfoldable pub unechoed : Fate C → Bool
  unechoed = if_taken (λ c terms. not (changed c && terms.echoes))

  -- nor into an escape sequence
  unfoldable pub untokened : Fate C → Bool
  untokened = if_tokened (λ c. not (changed c))

  -- not in the termination set of a read that takes it
  unfoldable pub unset : Fate C → Bool
  unset = if_taken (λ c terms. not (changed c && in_set terms.set (code c)))

  -- nor is its raised form
  unfoldable pub unset_raised : Fate C → Bool
  unset_raised = if_taken (λ c terms. not (changed c && in_set terms.set (raised (code c))))

unfoldable pub is_changed : List (Call ℕ) → List (Call ℕ) → Placed → Bool
is_changed cs ds (typed_at place n) = changed_at cs ds place
is_changed cs ds (preloaded n) = false

-- a supposition of what became of changed keys, in both runs
abbrev pub Supposition : Type 0
Supposition = (Placed → ℕ) → (Placed → Bool) → Fate Placed → Bool

unfoldable pub in_both : Supposition → List (Call ℕ) → List (Call ℕ) → Bool
in_both test cs ds = all_are (test code_in (is_changed cs ds)) (history cs) && all_are (test code_in (is_changed cs ds)) (history ds)

-- the suppositions one after the other, over what is supposed of a key's arrival
unfoldable pub suppositions : Supposition → List (Call ℕ) → List (Call ℕ) → List Bool
suppositions arrival cs ds =
    alike cs ds ∷
    each_changed both_printing cs ds ∷
    each_changed same_class cs ds ∷
    in_both arrival cs ds ∷
    in_both unechoed cs ds ∷
    in_both untokened cs ds ∷
    in_both unset cs ds ∷
    in_both unset_raised cs ds ∷
    []

unfoldable pub supposed : Supposition → List (Call ℕ) → List (Call ℕ) → Bool
supposed arrival cs ds = all_are (λ b. b) (suppositions arrival cs ds)

-- What everyone sees of an answer.

-- what stands for a hidden byte
abbrev pub blank : ℕ
blank = 0

-- Read Data with its DATA blanked: the bytes are hidden, their number is not
unfoldable pub blanked : Message ℕ → Message ℕ
blanked m = pick (eqb m.kind read_data) (map_text (λ c. blank) m) m

pub record Seen : Type 0 where
  pub number : ℕ
  pub terminal : List ℕ
  pub terminal_count : ℕ
  -- the message area's bytes, but for DATA
  pub messages : List ℕ
  pub message_count : ℕ
  pub dropped_count : ℕ

unfoldable pub seen : Answer ℕ → Seen
seen a =
    record {
      number = a.number;
      terminal = a.turn.bytes;
      terminal_count = length a.turn.bytes;
      messages = joined (map (λ m. framed (sent_bytes (blanked m))) a.turn.messages);
      message_count = length (message_bytes codes a.turn);
      dropped_count = a.turn.state.terminal.dropped;
    }

-- Then after each call every terminal byte, answer and count is equal, and every message too, except the bytes in the DATA.
abbrev pub LooksTheSame : List (Call ℕ) → List (Call ℕ) → Type 0
LooksTheSame cs ds = map seen (run codes cs) ≡ map seen (run codes ds)

-- the demand's own words
abbrev pub Demand3 : Type 0
Demand3 = (cs ds : List (Call ℕ)) → supposed in_band cs ds ≡ true → LooksTheSame cs ds

-- and from the weaker supposition of a key's arrival
abbrev pub Demand3Weak : Type 0
Demand3Weak = (cs ds : List (Call ℕ)) → supposed unacted cs ds ≡ true → LooksTheSame cs ds
