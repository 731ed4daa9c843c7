-- The fourteen messages: their fields, and how these stand in bytes (000, 4.16.2 to 4.16.15).
use Rattle.std.specs.Prelude.{ℕ, List, [], ◌∷◌, get_or, replicate}
use Rattle.rules.specs.Messages.Layout.{Group, byte_at, flags, byte, word}
use Rattle.rules.specs.Messages.Parameters.{Shape, initiation, question, setting}

-- The fields of a message: numbers and lists. D is the type of the characters in its text; bytes, unless the line sends it.
pub record Message (D : Type 0) : Type 0 where
  pub kind : ℕ
  -- the fields of the head, in the order of 000
  pub numbers : List ℕ
  -- Start Read's TERMINATION-SET
  pub set : List ℕ
  pub parameters : List (List ℕ)
  -- DATA
  pub text : List D

-- a field of the head by its place, 0 for one that is not there
abbrev pub field_at : {D : Type 0} → Message D → ℕ → ℕ
field_at m at = get_or m.numbers at 0

-- MSGTYPE, the first byte; the head, which is FLAGS first, begins behind it
abbrev pub type_in : List ℕ → ℕ
type_in bytes = byte_at bytes 0

abbrev pub head_at : ℕ
head_at = 1

-- a message that has no list
abbrev pub plain : {D : Type 0} → ℕ → List ℕ → Message D
plain kind numbers = record { kind = kind; numbers = numbers; set = []; parameters = []; text = [] }

-- what follows the head
pub data Tail : Type 0 where
  nothing text set_and_text : Tail
  list : Shape → Tail

pub record Form : Type 0 where
  pub head : List Group
  pub tail : Tail

abbrev pub form : List Group → Tail → Form
form head tail = record { head = head; tail = tail }

-- bytes of Initiate's REVISION
abbrev pub revision_size : ℕ
revision_size = 8

-- how many bytes FLAGS has, of most messages, of a Start Read and of a Write, and how many bits each field of it
abbrev pub flag_bytes : ℕ
flag_bytes = 1

abbrev pub start_read_flag_bytes : ℕ
start_read_flag_bytes = 3

abbrev pub write_flag_bytes : ℕ
write_flag_bytes = 2

abbrev pub start_read_widths : List ℕ
start_read_widths = 2 ∷ 1 ∷ 1 ∷ 1 ∷ 1 ∷ 2 ∷ 3 ∷ 1 ∷ 1 ∷ 1 ∷ 2 ∷ 2 ∷ []

abbrev pub read_data_widths : List ℕ
read_data_widths = 4 ∷ 1 ∷ []

abbrev pub write_widths : List ℕ
write_widths = 2 ∷ 1 ∷ 1 ∷ 1 ∷ 1 ∷ 2 ∷ 2 ∷ 1 ∷ 1 ∷ []

-- MSGTYPE 1 to 14, each behind its type byte
unfoldable pub forms : List Form
forms =
    -- Initiate: FLAGS; VERSION, ECO, MOD, REVISION; PARAMETERs
    form (flags flag_bytes [] ∷ byte ∷ byte ∷ byte ∷ replicate revision_size byte) (list initiation) ∷
    -- Start Read: UU, C, F, V, K, II, DDD, N, T, Q, ZZ, EE; MAX-LENGTH, END-OF-DATA, TIMEOUT, END-OF-PROMPT,
    -- START-OF-DISPLAY, LOW-WATER; TERMINATION-SET, DATA
    form
    (flags start_read_flag_bytes start_read_widths ∷ word ∷ word ∷ word ∷ word ∷ word ∷ word ∷ [])
    set_and_text ∷
    -- Read Data: completion code, more-data; LOW-WATER, VERTICAL-POSITION, HORIZONTAL-POSITION, TERMINATION-POSITION; DATA
    form (flags flag_bytes read_data_widths ∷ word ∷ byte ∷ byte ∷ word ∷ []) text ∷
    -- Out-of-Band: discard control; CHARACTER
    form (flags flag_bytes (1 ∷ []) ∷ byte ∷ []) nothing ∷
    -- Unread: unread condition
    form (flags flag_bytes (1 ∷ []) ∷ []) nothing ∷
    -- Clear Input
    form (flags flag_bytes [] ∷ []) nothing ∷
    -- Write: UU, L, D, B, E, PP, QQ, S, T; PREFIX-VALUE, POSTFIX-VALUE; DATA
    form (flags write_flag_bytes write_widths ∷ byte ∷ byte ∷ []) text ∷
    -- Write Completion: discard status; HORIZONTAL-POS, VERTICAL-POS
    form (flags flag_bytes (1 ∷ []) ∷ word ∷ word ∷ []) nothing ∷
    -- Discard State: discard control
    form (flags flag_bytes (1 ∷ []) ∷ []) nothing ∷
    -- Read Characteristics: PARAMETERs
    form (flags flag_bytes [] ∷ []) (list question) ∷
    -- Characteristics: PARAMETERs
    form (flags flag_bytes [] ∷ []) (list setting) ∷
    -- Check Input
    form (flags flag_bytes [] ∷ []) nothing ∷
    -- Input Count: COUNT
    form (flags flag_bytes [] ∷ word ∷ []) nothing ∷
    -- Input State: count change; the line never sends it
    form (flags flag_bytes (1 ∷ []) ∷ []) nothing ∷ []

-- of a type that is not 1 to 14: nothing behind the type byte
abbrev pub no_form : Form
no_form = form [] nothing

unfoldable pub form_of : ℕ → Form
form_of kind = get_or (no_form ∷ forms) kind no_form

-- the types by name
abbrev pub initiate : ℕ
initiate = 1

abbrev pub start_read : ℕ
start_read = 2

abbrev pub read_data : ℕ
read_data = 3

abbrev pub out_of_band : ℕ
out_of_band = 4

abbrev pub unread : ℕ
unread = 5

abbrev pub clear_input : ℕ
clear_input = 6

abbrev pub write : ℕ
write = 7

abbrev pub write_completion : ℕ
write_completion = 8

abbrev pub discard_state : ℕ
discard_state = 9

abbrev pub read_characteristics : ℕ
read_characteristics = 10

abbrev pub characteristics : ℕ
characteristics = 11

abbrev pub check_input : ℕ
check_input = 12

abbrev pub input_count : ℕ
input_count = 13

abbrev pub input_state : ℕ
input_state = 14

-- How many bytes stand in front of a message's list or text: MSGTYPE and the head. Of a message that has neither these are all its bytes.
-- Of a type that is not known it is MSGTYPE alone; of most messages MSGTYPE and FLAGS of one byte.
abbrev pub type_header : ℕ
type_header = 1

abbrev pub bare_header : ℕ
bare_header = 2

abbrev pub initiate_header : ℕ
initiate_header = 13

-- with the count of its termination set
abbrev pub start_read_header : ℕ
start_read_header = 17

abbrev pub read_data_header : ℕ
read_data_header = 8

abbrev pub out_of_band_header : ℕ
out_of_band_header = 3

abbrev pub write_header : ℕ
write_header = 5

abbrev pub write_completion_header : ℕ
write_completion_header = 6

abbrev pub input_count_header : ℕ
input_count_header = 4
