-- Reading a message gives its fields or a number, writing fields gives bytes or a number; both without a line.
use Rattle.std.specs.Prelude.{ℕ, zero, ◌+◌, Bool, true, false, not, ◌&&◌, List, [], ◌∷◌, ◌++◌, map, leb, ltb, eqb, length, take, drop}
use Rattle.rules.specs.Choice.{pick, Row, ◌when◌, first_row_answer, within, is_empty, all_are, joined}
use Rattle.rules.specs.Numbers.{input_size, message_size, message_area, small_area, wrong_length, wrong_type, unsound}
use Rattle.rules.specs.Messages.Layout.{byte_values, byte_at, size_of, widths_of, fits, read_groups, write_groups}
use Rattle.rules.specs.Messages.Parameters.{sound_parameter, fits_parameter, cleaned, cut}
use Rattle.rules.specs.Messages.Forms.{Message, type_in, head_at, Tail, nothing, text, set_and_text, list, Form, form_of}
use Rattle.rules.specs.Messages.Forms.{initiate, start_read, read_data, write, input_state}
use Rattle.rules.specs.Messages.Fields.{completion_code, prefix, postfix}
use Rattle.rules.specs.StartRead.{sound_start_read}

-- what was asked for, or the number of a refusal
pub data Outcome (A : Type 0) : Type 0 where
  refused : ℕ → Outcome A
  sound : A → Outcome A

-- most set bytes
abbrev pub set_size : ℕ
set_size = 32

unfoldable pub defined_kind : ℕ → Bool
defined_kind kind = within initiate input_state kind

-- the last completion code that 000 defines, and the last value of PP and of QQ
abbrev pub last_completion_code : ℕ
last_completion_code = 13

abbrev pub last_fix : ℕ
last_fix = 2

-- Each field has a value that 000 defines, and a Start Read passes its test; what the parameters hold is tested with them.
unfoldable pub defined_fields : Message ℕ → Bool
defined_fields m =
    pick (eqb m.kind start_read) (sound_start_read input_size m)
    (pick (eqb m.kind read_data) (leb (completion_code m) last_completion_code)
    (pick (eqb m.kind write) (leb (prefix m) last_fix && leb (postfix m) last_fix)
    true))

-- Reading.

-- a termination set's count, and what stands behind it
abbrev pub set_count_in : List ℕ → ℕ
set_count_in rest = byte_at rest 0

abbrev pub behind_count : List ℕ → List ℕ
behind_count rest = drop 1 rest

-- behind the head the tail is neither cut short nor followed by more
unfoldable pub whole_tail : Tail → List ℕ → Bool
whole_tail nothing rest = is_empty rest
whole_tail text rest = true
whole_tail set_and_text rest = ltb (set_count_in rest) (length rest) && leb (set_count_in rest) set_size
whole_tail (list shape) rest = all_are (sound_parameter shape) (cut shape zero rest)

unfoldable pub set_in : Tail → List ℕ → List ℕ
set_in nothing rest = []
set_in text rest = []
set_in set_and_text rest = take (set_count_in rest) (behind_count rest)
set_in (list shape) rest = []

unfoldable pub parameters_in : Tail → List ℕ → List (List ℕ)
parameters_in nothing rest = []
parameters_in text rest = []
parameters_in set_and_text rest = []
parameters_in (list shape) rest = map (cleaned shape) (cut shape zero rest)

unfoldable pub text_in : Tail → List ℕ → List ℕ
text_in nothing rest = []
text_in text rest = rest
text_in set_and_text rest = drop (set_count_in rest) (behind_count rest)
text_in (list shape) rest = []

-- behind MSGTYPE and the head
unfoldable pub behind_head : Form → List ℕ → List ℕ
behind_head f bytes = drop (head_at + size_of f.head) bytes

unfoldable pub fields_as : Form → List ℕ → Message ℕ
fields_as f bytes =
    record {
      kind = type_in bytes;
      numbers = read_groups f.head head_at bytes;
      set = set_in f.tail (behind_head f bytes);
      parameters = parameters_in f.tail (behind_head f bytes);
      text = text_in f.tail (behind_head f bytes);
    }

-- not cut short, nothing left over, every value defined
unfoldable pub sound_as : Form → List ℕ → Bool
sound_as f bytes =
    leb (head_at + size_of f.head) (length bytes) &&
    whole_tail f.tail (behind_head f bytes) &&
    defined_fields (fields_as f bytes)

-- bytes of the shortest message: a type alone
abbrev pub shortest_message : ℕ
shortest_message = 1

unfoldable pub sound_length : ℕ → Bool
sound_length n = within shortest_message message_size n

-- the refusals of reading, in the table's order
unfoldable pub read_refusals : List ℕ → List Row
read_refusals bytes =
    wrong_length when not (sound_length (length bytes)) ∷
    wrong_type when not (defined_kind (type_in bytes)) ∷
    unsound when not (sound_as (form_of (type_in bytes)) bytes) ∷
    []

-- reading: the first refusal that applies, else the fields
unfoldable pub read : List ℕ → Outcome (Message ℕ)
read bytes = first_row_answer refused (sound (fields_as (form_of (type_in bytes)) bytes)) (read_refusals bytes)

-- Writing.

unfoldable pub all_bytes : List ℕ → Bool
all_bytes bs = all_are (λ b. ltb b byte_values) bs

unfoldable pub tail_bytes : Tail → Message ℕ → List ℕ
tail_bytes nothing m = []
tail_bytes text m = m.text
tail_bytes set_and_text m = length m.set ∷ (m.set ++ m.text)
tail_bytes (list shape) m = joined m.parameters

unfoldable pub bytes_as : Form → Message ℕ → List ℕ
bytes_as f m = m.kind ∷ (write_groups f.head m.numbers ++ tail_bytes f.tail m)

-- the lists that this tail has fit it, and the others are empty
unfoldable pub fits_tail : Tail → Message ℕ → Bool
fits_tail nothing m = is_empty m.set && is_empty m.parameters && is_empty m.text
fits_tail text m = is_empty m.set && is_empty m.parameters && all_bytes m.text
fits_tail set_and_text m = leb (length m.set) set_size && all_bytes m.set && is_empty m.parameters && all_bytes m.text
fits_tail (list shape) m =
    is_empty m.set &&
    all_are (fits_parameter shape) m.parameters &&
    all_are (sound_parameter shape) m.parameters &&
    is_empty m.text

-- every field fits its place, and the message would not be read as 5
unfoldable pub fits_as : Form → Message ℕ → Bool
fits_as f m = fits (widths_of f.head) m.numbers && fits_tail f.tail m && defined_fields m

-- what can be handed to writing: a message, or a type and a body, which is how a type that is not 1 to 14 is held
pub data Held : Type 0 where
  message : Message ℕ → Held
  other : ℕ → List ℕ → Held

unfoldable pub kind_of : Held → ℕ
kind_of (message m) = m.kind
kind_of (other kind body) = kind

unfoldable pub held_bytes : Held → List ℕ
held_bytes (message m) = bytes_as (form_of m.kind) m
held_bytes (other kind body) = kind ∷ body

unfoldable pub fits_held : Held → Bool
fits_held (message m) = fits_as (form_of m.kind) m
fits_held (other kind body) = false

-- the refusals of writing, in the table's order: by the length of the area, the length and the type of the message, and one more test
unfoldable pub write_refusals : ℕ → ℕ → ℕ → Bool → List Row
write_refusals area size kind passes =
    small_area when ltb area message_area ∷
    wrong_length when ltb message_size size ∷
    wrong_type when not (defined_kind kind) ∷
    unsound when not passes ∷
    []

-- writing into an area of this length: the first refusal that applies, else the bytes
unfoldable pub written : ℕ → Held → Outcome (List ℕ)
written area h = first_row_answer refused (sound (held_bytes h)) (write_refusals area (length (held_bytes h)) (kind_of h) (fits_held h))
