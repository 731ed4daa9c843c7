-- Page 01, "Start Read": its fields, its test and its termination sets. Acceptance, below this module, has what it then does.
pub mod Acceptance
use Rattle.std.specs.Prelude.{ℕ, ◌-◌, ◌/◌, ◌%◌, ◌^◌, Bool, ◌&&◌, List, [], ◌∷◌, leb, eqb, length}
use Rattle.rules.specs.Choice.{pick, is_on}
use Rattle.rules.specs.Messages.Layout.{byte_bits, byte_at}
use Rattle.rules.specs.Messages.Forms.{Message, field_at}

-- UU: what 127 or 23 does with nothing to delete
abbrev pub underflow : {D : Type 0} → Message D → ℕ
underflow m = field_at m 0

-- BEL, or the read completes; 0 is nothing
abbrev pub underflow_rings : ℕ
underflow_rings = 1

abbrev pub underflow_completes : ℕ
underflow_completes = 2

-- C: clear type-ahead
abbrev pub clears_type_ahead : {D : Type 0} → Message D → ℕ
clears_type_ahead m = field_at m 1

-- F: formatting
abbrev pub formats : {D : Type 0} → Message D → ℕ
formats m = field_at m 2

-- V: terminate on vertical change
abbrev pub vertical : {D : Type 0} → Message D → ℕ
vertical m = field_at m 3

-- K: continuation read
abbrev pub continues : {D : Type 0} → Message D → ℕ
continues m = field_at m 4

-- II: raise input
abbrev pub raises : {D : Type 0} → Message D → ℕ
raises m = field_at m 5

-- II and EE: as the characteristic says, or on; 1 is off
abbrev pub as_characteristic : ℕ
as_characteristic = 0

abbrev pub switched_on : ℕ
switched_on = 2

-- DDD: disable control
abbrev pub disables : {D : Type 0} → Message D → ℕ
disables m = field_at m 6

-- nothing; 21 and 18; 2 is all editing; and arrival rule 3 as well
abbrev pub disables_nothing : ℕ
disables_nothing = 0

abbrev pub disables_lines : ℕ
disables_lines = 1

abbrev pub disables_controls : ℕ
disables_controls = 3

-- N: no echo
abbrev pub silent : {D : Type 0} → Message D → ℕ
silent m = field_at m 7

-- T: echo the terminator
abbrev pub terminator_echo : {D : Type 0} → Message D → ℕ
terminator_echo m = field_at m 8

-- Q: TIMEOUT counts
abbrev pub timed : {D : Type 0} → Message D → ℕ
timed m = field_at m 9

-- ZZ: which termination set
abbrev pub set_choice : {D : Type 0} → Message D → ℕ
set_choice m = field_at m 10

-- the last one given, this one, or the universal set
abbrev pub chooses_last : ℕ
chooses_last = 0

abbrev pub chooses_this : ℕ
chooses_this = 1

abbrev pub chooses_universal : ℕ
chooses_universal = 2

-- EE: recognise escape sequences
abbrev pub escapes : {D : Type 0} → Message D → ℕ
escapes m = field_at m 11

-- MAX-LENGTH
abbrev pub max_length : {D : Type 0} → Message D → ℕ
max_length m = field_at m 12

-- END-OF-DATA
abbrev pub end_of_data : {D : Type 0} → Message D → ℕ
end_of_data m = field_at m 13

-- TIMEOUT
abbrev pub timeout : {D : Type 0} → Message D → ℕ
timeout m = field_at m 14

-- END-OF-PROMPT
abbrev pub end_of_prompt : {D : Type 0} → Message D → ℕ
end_of_prompt m = field_at m 15

-- START-OF-DISPLAY
abbrev pub start_of_display : {D : Type 0} → Message D → ℕ
start_of_display m = field_at m 16

-- LOW-WATER
abbrev pub low_water : {D : Type 0} → Message D → ℕ
low_water m = field_at m 17

-- the last values of UU, of II and EE, of ZZ and of DDD
abbrev pub last_underflow : ℕ
last_underflow = underflow_completes

abbrev pub last_switch : ℕ
last_switch = switched_on

abbrev pub last_set_choice : ℕ
last_set_choice = chooses_universal

abbrev pub last_disable : ℕ
last_disable = disables_controls

-- The Start Read test, but for the count of set bytes, which reading tests: its values and places, and the largest read, which is an argument.
unfoldable pub sound_fields : {D : Type 0} → Message D → Bool
sound_fields m =
    leb (underflow m) last_underflow &&
    leb (raises m) last_switch &&
    leb (set_choice m) last_set_choice &&
    leb (escapes m) last_switch &&
    leb (disables m) last_disable &&
    leb (end_of_prompt m) (end_of_data m) &&
    leb (low_water m) (end_of_data m) &&
    leb (start_of_display m) (end_of_data m) &&
    leb (end_of_data m) (max_length m) &&
    eqb (length m.text) (end_of_data m - start_of_display m)

unfoldable pub sound_start_read : {D : Type 0} → ℕ → Message D → Bool
sound_start_read largest m = sound_fields m && leb (max_length m) largest

-- code c is in the set when bit c mod 8 of byte c div 8 is 1
unfoldable pub in_set : List ℕ → ℕ → Bool
in_set set c = is_on (byte_at set (c / byte_bits) / 2 ^ (c % byte_bits) % 2)

-- the universal set: codes 0 to 31 except 8, 9, 18, 21, 23
unfoldable pub universal : List ℕ
universal = 0b11111111 ∷ 0b11111100 ∷ 0b01011011 ∷ 0b11111111 ∷ []

-- ZZ 0: the last set given with ZZ 1 or loaded; 1: this set; 2: universal
unfoldable pub chosen_set : {D : Type 0} → List ℕ → Message D → List ℕ
chosen_set last m = pick (eqb (set_choice m) chooses_last) last (pick (eqb (set_choice m) chooses_this) m.set universal)
