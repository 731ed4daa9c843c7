-- Page 01, "Tokens", with request M-101: the grammar of an escape sequence, over the codes of its bytes.
-- Its forms (003), and the places that each can go through. Of bytes with .. behind them there are any number, or none; straight after 27 the last form has none of 59, 63, 79 and 91:
--   27 59 32-47.. 48-126              escape, middle
--   27 63 32-47.. 48-126              escape, middle
--   27 79 32-47.. 64-126              escape, intermediates
--   27 91 48-63.. 32-47.. 64-126      escape, parameters, intermediates
--   155 48-63.. 32-47.. 64-126        parameters, intermediates
--   27 32-47.. 48-126                 escape, middle
use Rattle.std.specs.Prelude.{ℕ, Bool, true, false, not, ◌&&◌, List, [], ◌∷◌, leb, eqb, length}
use Rattle.rules.specs.Choice.{pick, within, is_empty}
use Rattle.rules.specs.Numbers.{token_size}
use Rattle.rules.specs.Screen.{QUESTION}

abbrev pub ESC : ℕ
ESC = 27

abbrev pub CSI : ℕ
CSI = 155

-- ";", "O" and "[" begin forms of their own straight after 27, and so does "?"
abbrev pub SEMICOLON : ℕ
SEMICOLON = 59

abbrev pub LETTER_O : ℕ
LETTER_O = 79

abbrev pub BRACKET : ℕ
BRACKET = 91

-- the bytes of a sequence by what they do in it; the forms 27, 27 59 and 27 63 may have a lower final byte
abbrev pub first_intermediate : ℕ
first_intermediate = 32

abbrev pub last_intermediate : ℕ
last_intermediate = 47

abbrev pub is_intermediate : ℕ → Bool
is_intermediate n = within first_intermediate last_intermediate n

abbrev pub first_parameter : ℕ
first_parameter = 48

abbrev pub last_parameter : ℕ
last_parameter = 63

abbrev pub is_parameter : ℕ → Bool
is_parameter n = within first_parameter last_parameter n

abbrev pub first_final : ℕ
first_final = 64

abbrev pub first_low_final : ℕ
first_low_final = 48

-- the last that may be final
abbrev pub last_final : ℕ
last_final = 126

-- how far the bytes go
pub data Place : Type 0 where
  -- no byte
  empty : Place
  -- straight after 27: a byte may follow that begins a form of its own, or what may follow in the middle
  escape : Place
  -- 32-47 may follow, or a final byte from 48 on
  middle : Place
  -- 48-63 may follow, or 32-47, or a final byte from 64 on
  parameters : Place
  -- 32-47 may follow, or a final byte from 64 on
  intermediates : Place
  -- a final byte ended it
  valid : Place
  -- a byte outside the grammar, or too many
  invalid : Place

-- 32-47 leads to the place between, a final byte from the lowest on ends the token, any other byte makes it invalid
abbrev pub ended : Place → ℕ → ℕ → Place
ended between low n = pick (is_intermediate n) between (pick (within low last_final n) valid invalid)

unfoldable pub next : Place → ℕ → Place
next empty n = pick (eqb n ESC) escape (pick (eqb n CSI) parameters invalid)
next escape n =
    pick (eqb n SEMICOLON) middle
    (pick (eqb n QUESTION) middle
    (pick (eqb n LETTER_O) intermediates
    (pick (eqb n BRACKET) parameters
    (ended middle first_low_final n))))
next middle n = ended middle first_low_final n
next parameters n = pick (is_parameter n) parameters (ended intermediates first_final n)
next intermediates n = ended intermediates first_final n
next valid n = invalid
next invalid n = invalid

unfoldable pub place_from : Place → List ℕ → Place
place_from p [] = p
place_from p (n ∷ ns) = place_from (next p n) ns

unfoldable pub is_finished : Place → Bool
is_finished empty = false
is_finished escape = false
is_finished middle = false
is_finished parameters = false
is_finished intermediates = false
is_finished valid = true
is_finished invalid = true

unfoldable pub is_valid : Place → Bool
is_valid empty = false
is_valid escape = false
is_valid middle = false
is_valid parameters = false
is_valid intermediates = false
is_valid valid = true
is_valid invalid = false

-- a token of these codes; the last byte that fits makes it invalid unless it is final
unfoldable pub standing : List ℕ → Place
standing ns = pick (leb token_size (length ns) && not (is_finished (place_from empty ns))) invalid (place_from empty ns)

-- whole: held, or treated as held
unfoldable pub is_whole : List ℕ → Bool
is_whole ns = is_finished (standing ns)

-- partial: begun and not whole
unfoldable pub is_partial : List ℕ → Bool
is_partial ns = not (is_empty ns) && not (is_whole ns)
