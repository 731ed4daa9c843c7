-- Page 01, "Bench cases": what it is for one to hold, and the words that rows are written in. The rows stand in Bench/Rows.antt.
pub mod Rows
use Rattle.std.specs.Prelude.{ℕ, suc, ◌+◌, ◌/◌, ◌%◌, ◌^◌, Bool, true, false, ◌&&◌, List, [], ◌∷◌, ◌++◌, eqb, length, replicate}
use Rattle.rules.specs.Choice.{pick, same, same_all}
use Rattle.rules.specs.Numbers.{terminal_area, message_area, accepted}
use Rattle.rules.specs.Messages.Layout.{byte_bits}
use Rattle.rules.specs.Messages.Forms.{Message, revision_size, read_data_header}
use Rattle.rules.specs.Messages.Codec as codec
use Rattle.rules.specs.Messages.Codec.{Outcome, refused, sound, read, written}
use Rattle.rules.specs.Screen.{SP}
use Rattle.rules.specs.State.{State, fresh, codes}
use Rattle.rules.specs.Arrival.{discard_key}
use Rattle.rules.specs.Settings.{found_section}
use Rattle.rules.specs.Settings.Moving.{move}
use Rattle.rules.specs.Calls.{Event, key, step, message, load, Call, Answer, answer, message_bytes}

-- a call and what it is to answer: number, terminal bytes, the message area's bytes, and the dropped count after it
pub record Exchange : Type 0 where
  pub call : Call ℕ
  pub number : ℕ
  pub terminal : List ℕ
  pub messages : List ℕ
  pub dropped : ℕ

pub data Case : Type 0 where
  -- these bytes read as these fields
  reads : List ℕ → Message ℕ → Case
  -- these bytes, read without a line and written again, give this number and these bytes
  copies : List ℕ → ℕ → List ℕ → Case
  -- asked for this section of an own record and a site record, these bytes are found
  asks : ℕ → List ℕ → List ℕ → List ℕ → Case
  -- moved to this form in an area of this length, this settings record gives this number and these bytes
  moves : ℕ → ℕ → List ℕ → ℕ → List ℕ → Case
  -- these calls, from a fresh line, answer this
  runs : List Exchange → Case

unfoldable pub reads_as : Message ℕ → Outcome (Message ℕ) → Bool
reads_as m (refused n) = false
reads_as m (sound f) =
    eqb m.kind f.kind &&
    same m.numbers f.numbers &&
    same m.set f.set &&
    same_all m.parameters f.parameters &&
    same m.text f.text

unfoldable pub ends_in : ℕ → List ℕ → Outcome (List ℕ) → Bool
ends_in number bytes (refused n) = eqb number n && same bytes []
ends_in number bytes (sound b) = eqb number accepted && same bytes b

unfoldable pub copy_of : Outcome (Message ℕ) → Outcome (List ℕ)
copy_of (refused n) = refused n
copy_of (sound m) = written message_area (codec.message m)

unfoldable pub answers_as : Exchange → Answer ℕ → Bool
answers_as e a =
    eqb e.number a.number &&
    same e.terminal a.turn.bytes &&
    same e.messages (message_bytes codes a.turn) &&
    eqb e.dropped a.turn.state.terminal.dropped

unfoldable pub runs_as : State ℕ → List Exchange → Bool
runs_as s [] = true
runs_as s (e ∷ es) = let a = answer codes e.call s in answers_as e a && runs_as a.turn.state es

unfoldable pub holds : Case → Bool
holds (reads bytes m) = reads_as m (read bytes)
holds (copies bytes number again) = ends_in number again (copy_of (read bytes))
holds (asks n own site section) = same section (found_section n own site)
holds (moves form area bytes number after) = ends_in number after (move form area bytes)
holds (runs es) = runs_as fresh es

-- the places of the rows that do not hold, counted from a number
unfoldable pub failures : ℕ → List Case → List ℕ
failures n [] = []
failures n (r ∷ rs) = pick (holds r) [] (n ∷ []) ++ failures (suc n) rs

-- An exchange, and one in full areas with nothing dropped so far.
abbrev pub asked : ℕ → ℕ → Event ℕ → ℕ → List ℕ → List ℕ → ℕ → Exchange
asked terminal_length message_length e number terminal messages dropped =
    record {
      call = record { terminal = terminal_length; messages = message_length; event = e };
      number = number;
      terminal = terminal;
      messages = messages;
      dropped = dropped;
    }

abbrev pub says : Event ℕ → ℕ → List ℕ → List ℕ → Exchange
says e number terminal messages = asked terminal_area message_area e number terminal messages 0

-- a key with its step
abbrev pub typed : ℕ → List ℕ → List ℕ → Exchange
typed code terminal messages = says (key code) accepted terminal messages

-- a key that waits: no read is pending, or the line is locked
abbrev pub stored : ℕ → Exchange
stored code = typed code [] []

-- a bare step
abbrev pub stepped : List ℕ → List ℕ → Exchange
stepped terminal messages = says step accepted terminal messages

abbrev pub told : List ℕ → ℕ → List ℕ → List ℕ → Exchange
told bytes number terminal messages = says (message bytes) number terminal messages

-- Initiate and ours, which every line begins with
abbrev pub initiated : Exchange
initiated =
    told (0x01 ∷ 0x00 ∷ 0x01 ∷ 0x00 ∷ 0x00 ∷ replicate revision_size SP) accepted []
    (0x19 ∷ 0x00 ∷ 0x01 ∷ 0x00 ∷ 0x01 ∷ 0x00 ∷ 0x00 ∷
    (replicate revision_size SP ++
    (0x01 ∷ 0x02 ∷ 0x00 ∷ 0x08 ∷ 0x02 ∷ 0x02 ∷ 0x00 ∷ 0x04 ∷ 0x03 ∷ 0x02 ∷ 0xFE ∷ 0x7F ∷ [])))

-- case A's bytes, and its acceptance, which writes the prompt
abbrev pub start_a : List ℕ
start_a = 0x02 ∷ 0x01 ∷ 0x90 ∷ 0x00 ∷ 0x50 ∷ 0x00 ∷ 0x02 ∷ 0x00 ∷ 0x00 ∷ 0x00 ∷ 0x02 ∷ 0x00 ∷ 0x00 ∷ 0x00 ∷ 0x02 ∷ 0x00 ∷ 0x00 ∷ 0x3F ∷ 0x20 ∷ []

abbrev pub started_a : Exchange
started_a = told start_a accepted (0x3F ∷ 0x20 ∷ []) []

-- the bytes of a termination set with this code alone
abbrev pub set_of_code : ℕ → List ℕ
set_of_code code = replicate (code / byte_bits) 0x00 ++ (2 ^ (code % byte_bits) ∷ [])

-- a Start Read of 80 characters that raises (II 2) and echoes, with this termination set (ZZ 1), no prompt, and this text, of marks, whose echo is itself
abbrev pub raising_read : List ℕ → List ℕ → Exchange
raising_read set text =
    told ((0x02 ∷ 0x80 ∷ 0x40 ∷ 0x00 ∷ 0x50 ∷ 0x00 ∷ length text ∷ 0x00 ∷ replicate 8 0x00) ++ (length set ∷ set) ++ text) accepted text []

-- a Start Read with Q and this TIMEOUT, and the Read Data of one that is timed out with nothing typed
abbrev pub timed_read : ℕ → Exchange
timed_read timeout =
    told (0x02 ∷ 0x00 ∷ 0xB0 ∷ 0x00 ∷ 0x50 ∷ 0x00 ∷ 0x00 ∷ 0x00 ∷ timeout ∷ 0x00 ∷ 0x00 ∷ 0x00 ∷ 0x00 ∷ 0x00 ∷ 0x00 ∷ 0x00 ∷ 0x00 ∷ []) accepted [] []

abbrev pub timed_out : List ℕ
timed_out = 0x08 ∷ 0x00 ∷ 0x03 ∷ 0x05 ∷ 0x00 ∷ 0x00 ∷ 0x00 ∷ 0x00 ∷ 0x00 ∷ 0x00 ∷ []

-- a Write of one part, its flags without B and E, its prefix value and postfix value, and its data
abbrev pub wrote : ℕ → ℕ → ℕ → ℕ → List ℕ → List ℕ → List ℕ → Exchange
wrote low high before behind text terminal messages = told (0x07 ∷ (0x30 + low) ∷ high ∷ before ∷ behind ∷ text) accepted terminal messages

-- a Write that puts nothing out, by its UU
abbrev pub wrote_nothing : ℕ → Exchange
wrote_nothing lock = wrote lock 0x00 0x00 0x00 [] [] []

-- Write Completion: whether output was lost, and the changes of column and line
abbrev pub completed : ℕ → ℕ → ℕ → List ℕ
completed lost horizontal vertical = 0x06 ∷ 0x00 ∷ 0x08 ∷ lost ∷ horizontal ∷ 0x00 ∷ vertical ∷ 0x00 ∷ []

-- Discard State says 1 where output is not discarded
abbrev pub discard_state : ℕ → List ℕ
discard_state kept = 0x02 ∷ 0x00 ∷ 0x09 ∷ kept ∷ []

-- 15 is typed, and its step does nothing
abbrev pub flipped : ℕ → Exchange
flipped kept = typed discard_key [] (discard_state kept)

-- Characteristics that set a character's attribute: 1 is immediate clear, 3 hello; and the Out-of-Band that such a character sends
abbrev pub attribute : ℕ → ℕ → Exchange
attribute code value = told (0x0B ∷ 0x00 ∷ 0x02 ∷ 0x02 ∷ code ∷ 0xFF ∷ value ∷ []) accepted [] []

abbrev pub out_of_band : ℕ → List ℕ
out_of_band code = 0x03 ∷ 0x00 ∷ 0x04 ∷ 0x00 ∷ code ∷ []

-- Characteristics that turn escape recognition on
abbrev pub recognising : Exchange
recognising = told (0x0B ∷ 0x00 ∷ 0x06 ∷ 0x02 ∷ 0x01 ∷ []) accepted [] []

-- Check Input finds so many keys that wait and bytes of a token
abbrev pub waiting : ℕ → Exchange
waiting n = told (0x0C ∷ 0x00 ∷ []) accepted [] (0x04 ∷ 0x00 ∷ 0x0D ∷ 0x00 ∷ n ∷ 0x00 ∷ [])

-- keys that show nothing; the last one sends these messages. Of no keys nothing is claimed
unfoldable pub typed_unseen : List ℕ → List ℕ → List Exchange
typed_unseen [] messages = []
typed_unseen (code ∷ []) messages = typed code [] messages ∷ []
typed_unseen (code ∷ second ∷ others) messages = typed code [] [] ∷ typed_unseen (second ∷ others) messages

-- a token typed into case A's read: Read Data has this completion code, 1 for valid and 2 for invalid, and the whole token, and then nothing waits.
-- Tokens are written as the papers write them, so that a row holds the names of the grammar to their codes.
abbrev pub token_typed : List ℕ → ℕ → Case
token_typed token completion =
    runs
    (initiated ∷ recognising ∷ started_a ∷
    (typed_unseen token
    ((read_data_header + length token) ∷ 0x00 ∷ 0x03 ∷ completion ∷ 0x02 ∷ 0x00 ∷ 0x00 ∷ 0x02 ∷ 0x00 ∷ 0x00 ∷ token) ++
    (waiting 0 ∷ [])))

-- a load, which is lent no areas
abbrev pub loading : List ℕ → List ℕ → ℕ → Exchange
loading own site number = asked 0 0 (load own site) number [] [] 0

-- a record of a form with no section but a largest read, of these bytes, fewer than 256; or with none
abbrev pub largest_read_record : ℕ → List ℕ → List ℕ
largest_read_record form bytes = form ∷ 0x00 ∷ 0x00 ∷ 0x00 ∷ 0x00 ∷ 0x00 ∷ 0x00 ∷ length bytes ∷ 0x00 ∷ bytes

-- of form 1, a record without anything, and records of one section; the first number is the section's length
abbrev pub empty_record : List ℕ
empty_record = largest_read_record 0x01 []

abbrev pub switch_record : ℕ → List ℕ → List ℕ
switch_record size bytes = 0x01 ∷ size ∷ 0x00 ∷ (bytes ++ (0x00 ∷ 0x00 ∷ 0x00 ∷ 0x00 ∷ 0x00 ∷ 0x00 ∷ []))

abbrev pub attribute_record : ℕ → List ℕ → List ℕ
attribute_record size pairs = 0x01 ∷ 0x00 ∷ 0x00 ∷ size ∷ 0x00 ∷ (pairs ++ (0x00 ∷ 0x00 ∷ 0x00 ∷ 0x00 ∷ []))

abbrev pub set_record : ℕ → List ℕ → List ℕ
set_record size bytes = 0x01 ∷ 0x00 ∷ 0x00 ∷ 0x00 ∷ 0x00 ∷ size ∷ 0x00 ∷ (bytes ++ (0x00 ∷ 0x00 ∷ []))

-- a record of a form with all four sections, and these bytes for its largest read
abbrev pub full_record : ℕ → List ℕ → List ℕ
full_record form bytes =
    form ∷
    (0x0C ∷ 0x00 ∷ 0x04 ∷ 0x02 ∷ 0x01 ∷ 0x05 ∷ 0x02 ∷ 0x00 ∷ 0x06 ∷ 0x02 ∷ 0x00 ∷ 0x09 ∷ 0x02 ∷ 0x01 ∷
    0x02 ∷ 0x00 ∷ 0x41 ∷ 0x04 ∷
    0x02 ∷ 0x00 ∷ 0x00 ∷ 0x20 ∷
    length bytes ∷ 0x00 ∷ bytes)

-- the numbers of a Start Read by name, and in the order of its head
pub record StartReadNumbers : Type 0 where
  pub underflow : ℕ
  pub clears_type_ahead : ℕ
  pub formats : ℕ
  pub vertical : ℕ
  pub continues : ℕ
  pub raises : ℕ
  pub disables : ℕ
  pub silent : ℕ
  pub terminator_echo : ℕ
  pub timed : ℕ
  pub set_choice : ℕ
  pub escapes : ℕ
  pub max_length : ℕ
  pub end_of_data : ℕ
  pub timeout : ℕ
  pub end_of_prompt : ℕ
  pub start_of_display : ℕ
  pub low_water : ℕ

abbrev pub in_order : StartReadNumbers → List ℕ
in_order h =
    h.underflow ∷ h.clears_type_ahead ∷ h.formats ∷ h.vertical ∷ h.continues ∷ h.raises ∷ h.disables ∷ h.silent ∷ h.terminator_echo ∷ h.timed ∷
    h.set_choice ∷ h.escapes ∷ h.max_length ∷ h.end_of_data ∷ h.timeout ∷ h.end_of_prompt ∷ h.start_of_display ∷ h.low_water ∷ []
