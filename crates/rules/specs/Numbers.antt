-- Page 01, "Numbers": the sizes, and the numbers a call answers.
use Rattle.std.specs.Prelude.{ℕ}

-- characters of the input buffer
unfoldable pub input_size : ℕ
input_size = 1024

-- keys that wait in type-ahead
unfoldable pub type_ahead_size : ℕ
type_ahead_size = 64

-- bytes of an escape token
unfoldable pub token_size : ℕ
token_size = 16

-- bytes of the longest message, received or written
unfoldable pub message_size : ℕ
message_size = 2048

-- bytes a call needs of each area
unfoldable pub terminal_area : ℕ
terminal_area = 32768

unfoldable pub message_area : ℕ
message_area = 2048

-- and moving a settings record to the other form (M-107)
unfoldable pub moving_area : ℕ
moving_area = 600

-- character codes, each with its attribute
abbrev pub code_count : ℕ
code_count = 256

-- the top of the column, and where the dropped count stops
unfoldable pub top_column : ℕ
top_column = 999

unfoldable pub top_dropped : ℕ
top_dropped = 65535

-- done
abbrev pub accepted : ℕ
accepted = 0

-- an area too small
abbrev pub small_area : ℕ
small_area = 1

-- a message of 0 bytes, or too long
abbrev pub wrong_length : ℕ
wrong_length = 2

-- a type that is not 1 to 14, or that only servers send
abbrev pub wrong_type : ℕ
wrong_type = 3

-- Initiate missing or repeated; Start Read with a read pending
abbrev pub wrong_time : ℕ
wrong_time = 4

-- cut short, left over, undefined, or against the Start Read test
abbrev pub unsound : ℕ
unsound = 5

-- sound, but not carried
abbrev pub not_carried : ℕ
not_carried = 6

-- a settings record that breaks a rule (M-100)
abbrev pub unsound_record : ℕ
unsound_record = 7

-- a settings record whose largest read the other form cannot hold (M-107)
abbrev pub too_large : ℕ
too_large = 8
