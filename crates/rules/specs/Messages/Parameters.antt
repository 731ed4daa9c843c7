-- Parameter lists: a parameter is its bytes, of which the first two say how it goes on.
use Rattle.std.specs.Prelude.{ℕ, zero, suc, ◌+◌, ◌*◌, ◌-◌, ◌%◌, Bool, true, false, ◌&&◌, ltb, eqb, length, take, replicate}
use mathlib.Core.List.{List, [], ◌∷◌, zip_with}
use Rattle.rules.specs.Choice.{pick, within}
use Rattle.rules.specs.Messages.Layout.{byte_values, byte_at}

-- how many values a byte has, of which all bits, seven, four or one are used: its limit
abbrev pub all_bits : ℕ
all_bits = byte_values

abbrev pub seven_bits : ℕ
seven_bits = 128

abbrev pub four_bits : ℕ
four_bits = 16

abbrev pub one_bit : ℕ
one_bit = 2

-- A kind of parameter list.
pub record Shape : Type 0 where
  -- By a parameter's first two bytes: a limit for each byte behind them. How many there are is the parameter's length but for those two.
  pub limits : ℕ → ℕ → List ℕ
  -- 000 defines the parameter and its value
  pub defined : List ℕ → Bool

-- the first two bytes of a parameter, its head; where the bytes behind it stand
abbrev pub parameter_head : ℕ
parameter_head = 2

abbrev pub first_in : List ℕ → ℕ
first_in p = byte_at p 0

abbrev pub second_in : List ℕ → ℕ
second_in p = byte_at p 1

abbrev pub first_value_at : ℕ
first_value_at = 2

abbrev pub second_value_at : ℕ
second_value_at = 3

abbrev pub third_value_at : ℕ
third_value_at = 4

-- bytes of the longest value: CHARACTER, MASK and ATTRIBUTES
abbrev pub longest_value : ℕ
longest_value = 3

-- a number in two bytes, low byte first
abbrev pub paired : ℕ → ℕ → ℕ
paired low high = low + byte_values * high

-- SELECTOR (000, 4.17): characteristic identifier, then the type of identifier, 2 for ours
abbrev pub selector : List ℕ → ℕ
selector p = paired (first_in p) (second_in p)

-- identifiers of 4.17.2, as selectors
abbrev pub character_attributes : ℕ
character_attributes = 0x0202

abbrev pub raise_input : ℕ
raise_input = 0x0204

abbrev pub normal_echo : ℕ
normal_echo = 0x0205

abbrev pub escape_recognition : ℕ
escape_recognition = 0x0206

abbrev pub input_count_state : ℕ
input_count_state = 0x0208

abbrev pub auto_prompt : ℕ
auto_prompt = 0x0209

abbrev pub error_processing : ℕ
error_processing = 0x020A

abbrev pub first_selector : ℕ
first_selector = 0x0201

abbrev pub last_selector : ℕ
last_selector = error_processing

unfoldable pub defined_selector : ℕ → Bool
defined_selector n = within first_selector last_selector n

-- Initiate: PARMTYPE, a count, and that many bytes; nothing of it is looked at
abbrev pub initiation : Shape
initiation = record { limits = λ kind count. replicate count all_bits; defined = λ p. true }

-- Read Characteristics: SELECTOR, and CHARACTER for character attributes alone
unfoldable pub question_limits : ℕ → List ℕ
question_limits n = pick (eqb n character_attributes) (all_bits ∷ []) []

abbrev pub question : Shape
question = record { limits = λ low high. question_limits (paired low high); defined = λ p. defined_selector (selector p) }

-- Characteristics: SELECTOR and VALUE. A Boolean uses bit 0; character attributes are CHARACTER, MASK and seven bits;
-- INPUT-COUNT-STATE is an integer, 1 to 3; ERROR-PROCESSING uses four bits.
unfoldable pub value_limits : ℕ → List ℕ
value_limits n =
    pick (eqb n character_attributes) (all_bits ∷ all_bits ∷ seven_bits ∷ [])
    (pick (eqb n input_count_state) (all_bits ∷ all_bits ∷ [])
    (pick (eqb n error_processing) (four_bits ∷ [])
    (pick (defined_selector n) (one_bit ∷ []) [])))

-- the values of INPUT-COUNT-STATE
abbrev pub first_count_state : ℕ
first_count_state = 1

abbrev pub last_count_state : ℕ
last_count_state = 3

abbrev pub count_state_in : List ℕ → ℕ
count_state_in p = paired (byte_at p first_value_at) (byte_at p second_value_at)

unfoldable pub defined_value : List ℕ → Bool
defined_value p =
    pick (eqb (selector p) input_count_state) (within first_count_state last_count_state (count_state_in p)) (defined_selector (selector p))

abbrev pub setting : Shape
setting = record { limits = λ low high. value_limits (paired low high); defined = defined_value }

-- as many bytes as limits, each under its own
unfoldable pub under : List ℕ → List ℕ → Bool
under [] [] = true
under [] (b ∷ bs) = false
under (l ∷ ls) [] = false
under (l ∷ ls) (b ∷ bs) = ltb b l && under ls bs

module _ (shape : Shape) where
  -- the limits of the bytes behind the first two, and how long the parameter should be with those
  unfoldable pub limits_of : List ℕ → List ℕ
  limits_of p = shape.limits (first_in p) (second_in p)

  unfoldable pub parameter_size : List ℕ → ℕ
  parameter_size p = parameter_head + length (limits_of p)

  -- whole, and with a defined value
  unfoldable pub sound_parameter : List ℕ → Bool
  sound_parameter p = eqb (length p) (parameter_size p) && shape.defined p

  -- each byte under its limit
  unfoldable pub fits_parameter : List ℕ → Bool
  fits_parameter p = under (all_bits ∷ all_bits ∷ limits_of p) p

  -- unused bits set to 0
  unfoldable pub cleaned : List ℕ → List ℕ
  cleaned p = zip_with ◌%◌ p (all_bits ∷ all_bits ∷ limits_of p)

  -- The bytes of a list cut into parameters; the number is how many bytes the last one still takes. In a Characteristics message
  -- 04 02 01 05 02 00 is cut so: at 04 stands raise input, of three bytes, so 04 02 01 is a parameter and takes two bytes more; these are
  -- passed over; at 05 stands normal echo, and 05 02 00 is the next one. A last parameter that is cut short is kept as it is.
  unfoldable pub cut : ℕ → List ℕ → List (List ℕ)
  cut left [] = []
  cut zero (x ∷ xs) = take (parameter_size (x ∷ xs)) (x ∷ xs) ∷ cut (parameter_size (x ∷ xs) - 1) xs
  cut (suc left) (x ∷ xs) = cut left xs
