-- What the laws need of the sizes. Nothing else looks at their numerals.
use mathlib.Core.Path.{◌≡◌, refl}
use lib.Dec.{eqb}
use Prim.Native.Nat.{ℕ, ◌+◌, ◌*◌, ◌≤◌, ◌<◌}
use native.Mathlib.Omega.{arith}
use Rattle.rules.specs.Choice.{pick}
use Rattle.rules.specs.Numbers.{input_size, type_ahead_size, token_size, message_size, terminal_area, message_area, moving_area, code_count, top_column, top_dropped}
use Rattle.rules.specs.Messages.Layout.{word_bytes, byte_values}
use Rattle.rules.specs.Messages.Codec.{set_size}
use Rattle.rules.specs.Settings.{form1, form2, section_count, switch_at, switch_count, top_largest_read}
use Rattle.rules.proofs.Choice.{pick_case}

-- behind a BEL: rubbing out a whole buffer, three bytes for each of a character's eight marks, or one echo
pub rubbing_room : 24 * input_size + 9 ≤ terminal_area
unfolding input_size terminal_area
rubbing_room = omega arith

-- a Write: its data, a prefix and a postfix, L's LF, and a redisplay, CR LF with eight marks for each of the prompt's and the input's characters
pub writing_room : 2 * byte_values + message_size + 8 * input_size + 3 ≤ terminal_area
unfolding message_size input_size terminal_area
writing_room = omega arith

-- a framed Read Data with a whole buffer behind a framed Out-of-Band
pub answer_room : input_size + 15 ≤ message_area
unfolding input_size message_area
answer_room = omega arith

-- our Initiate
pub initiate_room : 27 ≤ message_area
unfolding message_area
initiate_room = omega arith

pub message_room : message_area ≤ message_size
unfolding message_area message_size
message_room = omega arith

-- the largest read that a settings record can hold, of either form
pub largest_read_room : (form : ℕ) → top_largest_read form ≤ input_size
unfolding top_largest_read input_size
largest_read_room form = pick_case (λ top. top ≤ input_size) (eqb form form1) (λ y. omega arith) (λ n. omega arith)

-- form 2 holds what form 1 does
pub wider_form : top_largest_read form1 ≤ top_largest_read form2
unfolding top_largest_read pick
wider_form = omega arith

-- a settings record with every section at its longest: its form, the switches, a pair for each code, a whole set and a largest read, each behind its length
pub moving_room : 1 + section_count * word_bytes + switch_at switch_count + 2 * code_count + set_size + word_bytes ≤ moving_area
unfolding moving_area
moving_room = omega arith

-- counts and positions fit words
pub input_word : input_size < 65536
unfolding input_size
input_word = omega arith

-- keys that wait and a token's bytes, counted together, fit a byte
pub waiting_byte : type_ahead_size + token_size < byte_values
unfolding type_ahead_size token_size
waiting_byte = omega arith

-- a message's length in the area fits a word
pub area_word : message_area < 65536
unfolding message_area
area_word = omega arith

-- and places in a message
pub message_word : message_size < 65536
unfolding message_size
message_word = omega arith

-- the longest message fits the area
pub longest_room : message_size ≤ message_area
unfolding message_size message_area
longest_room = omega arith

-- The sizes as the code has them, in src/lib.rt.
-- for proofs that write what the code computes
abbrev pub input_numeral : ℕ
input_numeral = 1024

pub input_size_lem : input_size ≡ input_numeral
unfolding input_size
input_size_lem = refl

abbrev pub message_numeral : ℕ
message_numeral = 2048

pub message_size_lem : message_size ≡ message_numeral
unfolding message_size
message_size_lem = refl

pub type_ahead_size_lem : type_ahead_size ≡ 64
unfolding type_ahead_size
type_ahead_size_lem = refl

pub token_size_lem : token_size ≡ 16
unfolding token_size
token_size_lem = refl

pub terminal_area_lem : terminal_area ≡ 32768
unfolding terminal_area
terminal_area_lem = refl

pub message_area_lem : message_area ≡ 2048
unfolding message_area
message_area_lem = refl

pub moving_area_lem : moving_area ≡ 600
unfolding moving_area
moving_area_lem = refl

pub top_column_lem : top_column ≡ 999
unfolding top_column
top_column_lem = refl

pub top_dropped_lem : top_dropped ≡ 65535
unfolding top_dropped
top_dropped_lem = refl
