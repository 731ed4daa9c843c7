-- Page 01, "What the screen gets": echo, column and line, rubbing out.
use Rattle.std.specs.Prelude.{ℕ, ◌+◌, ◌-◌, ◌*◌, ◌%◌, min, Bool, ◌||◌, List, [], ◌∷◌, ◌++◌, leb, eqb, length, take, drop, replicate}
use Rattle.rules.specs.Choice.{pick, within, joined}
use Rattle.rules.specs.Numbers.{top_column}

abbrev pub SOH : ℕ
SOH = 1

abbrev pub BEL : ℕ
BEL = 7

abbrev pub BS : ℕ
BS = 8

abbrev pub HT : ℕ
HT = 9

abbrev pub LF : ℕ
LF = 10

abbrev pub CR : ℕ
CR = 13

abbrev pub SP : ℕ
SP = 32

abbrev pub QUESTION : ℕ
QUESTION = 0x3F

abbrev pub CARET : ℕ
CARET = 0x5E

abbrev pub DEL : ℕ
DEL = 127

-- columns from one tab stop to the next
abbrev pub tab_width : ℕ
tab_width = 8

-- marks are the codes of two ranges, of which the first begins with the space
abbrev pub last_mark : ℕ
last_mark = 126

abbrev pub first_high_mark : ℕ
first_high_mark = 160

abbrev pub last_high_mark : ℕ
last_high_mark = 254

-- the last of the controls below the marks, and what lies between a control and the character behind its caret
abbrev pub last_control : ℕ
last_control = 31

abbrev pub control_shift : ℕ
control_shift = 64

-- lines and changes of position count modulo these
abbrev pub positions : ℕ
positions = 256

abbrev pub minus_one : ℕ
minus_one = 255

-- a mark or a space: what takes a column
unfoldable pub is_mark : ℕ → Bool
is_mark n = within SP last_mark n || within first_high_mark last_high_mark n

-- from a column to the next multiple of 8
abbrev pub to_tab : ℕ → ℕ
to_tab column = tab_width - column % tab_width

-- the column after a byte
unfoldable pub column_after : ℕ → ℕ → ℕ
column_after column b =
    pick (is_mark b) (min top_column (column + 1))
    (pick (eqb b CR) 0
    (pick (eqb b BS) (column - 1)
    (pick (eqb b HT) (min top_column (column + to_tab column))
    column)))

unfoldable pub column_after_all : ℕ → List ℕ → ℕ
column_after_all column [] = column
column_after_all column (b ∷ bs) = column_after_all (column_after column b) bs

pub record Screen : Type 0 where
  pub column : ℕ
  pub line : ℕ
  -- the last byte that any call wrote was CR
  pub after_cr : Bool

-- the screen after a byte, and after some
unfoldable pub shown : Screen → ℕ → Screen
shown s b =
    record { column = column_after s.column b; line = pick (eqb b LF) ((s.line + 1) % positions) s.line; after_cr = eqb b CR }

unfoldable pub shown_all : Screen → List ℕ → Screen
shown_all s [] = s
shown_all s (b ∷ bs) = shown_all (shown s b) bs

-- a change of position: modulo 256, 255 times a number is minus that number
unfoldable pub change : ℕ → ℕ → ℕ
change now before = (now + minus_one * before) % positions

-- what a character echoes at a column: nothing but marks and spaces
unfoldable pub echo : ℕ → ℕ → List ℕ
echo column n =
    pick (is_mark n) (n ∷ [])
    (pick (eqb n HT) (replicate (to_tab column) SP)
    (pick (leb n last_control) (CARET ∷ (n + control_shift) ∷ [])
    (pick (eqb n DEL) (CARET ∷ QUESTION ∷ [])
    [])))

-- a terminator's echo: 13 is CR LF
unfoldable pub echo_terminator : ℕ → ℕ → List ℕ
echo_terminator column n = pick (eqb n CR) (CR ∷ LF ∷ []) (echo column n)

-- the echo of a text from a column on
unfoldable pub echo_all : ℕ → List ℕ → List ℕ
echo_all column [] = []
echo_all column (n ∷ ns) = echo column n ++ echo_all (column_after_all column (echo column n)) ns

-- how many marks and spaces stand on the screen for the text behind its first characters, shown from a column on
unfoldable pub marks_behind : ℕ → ℕ → List ℕ → ℕ
marks_behind kept column ns = length (echo_all (column_after_all column (echo_all column (take kept ns))) (drop kept ns))

-- BS SP BS for each mark
unfoldable pub rub_out : ℕ → List ℕ
rub_out marks = joined (replicate marks (BS ∷ SP ∷ BS ∷ []))
