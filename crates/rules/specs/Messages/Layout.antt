-- How numbers stand in bytes: bit fields in groups of whole bytes, low byte and low bit first (000, 4.16, rule 3 of the notation).
use Rattle.std.specs.Prelude.{ℕ, ◌+◌, ◌*◌, ◌/◌, ◌%◌, ◌^◌, Bool, true, false, ◌&&◌, List, [], ◌∷◌, ◌++◌, ltb, length, drop, get_or, replicate}

-- bits of a byte, bytes and bits of a word, and how many values each has
abbrev pub byte_bits : ℕ
byte_bits = 8

abbrev pub word_bytes : ℕ
word_bytes = 2

abbrev pub word_bits : ℕ
word_bits = 16

abbrev pub byte_values : ℕ
byte_values = 256

abbrev pub word_values : ℕ
word_values = 65536

abbrev pub byte_at : List ℕ → ℕ → ℕ
byte_at bytes at = get_or bytes at 0

-- fields of these widths in a number, from bit 0; what lies above them is unused
unfoldable pub fields_in : List ℕ → ℕ → List ℕ
fields_in [] n = []
fields_in (w ∷ ws) n = n % 2 ^ w ∷ fields_in ws (n / 2 ^ w)

-- the number that holds these fields, unused bits 0
unfoldable pub number_of : List ℕ → List ℕ → ℕ
number_of [] vs = 0
number_of (w ∷ ws) vs = byte_at vs 0 + 2 ^ w * number_of ws (drop 1 vs)

-- as many fields as widths, each in its width
unfoldable pub fits : List ℕ → List ℕ → Bool
fits [] [] = true
fits [] (v ∷ vs) = false
fits (w ∷ ws) [] = false
fits (w ∷ ws) (v ∷ vs) = ltb v (2 ^ w) && fits ws vs

-- some whole bytes, and the widths of the fields in them
pub record Group : Type 0 where
  pub bytes : ℕ
  pub widths : List ℕ

-- a FLAGS field; no widths: a FLAGS field that 000 gives as the constant 0
abbrev pub flags : ℕ → List ℕ → Group
flags n ws = record { bytes = n; widths = ws }

abbrev pub byte : Group
byte = flags 1 (byte_bits ∷ [])

abbrev pub word : Group
word = flags word_bytes (word_bits ∷ [])

-- how many bytes the groups take
unfoldable pub size_of : List Group → ℕ
size_of [] = 0
size_of (g ∷ gs) = g.bytes + size_of gs

unfoldable pub widths_of : List Group → List ℕ
widths_of [] = []
widths_of (g ∷ gs) = g.widths ++ widths_of gs

-- the number in so many bytes, low byte first, and its bytes
abbrev pub number_at : ℕ → ℕ → List ℕ → ℕ
number_at n at bytes = number_of (replicate n byte_bits) (drop at bytes)

abbrev pub bytes_of : ℕ → ℕ → List ℕ
bytes_of n value = fields_in (replicate n byte_bits) value

-- reading: the fields of the groups that begin at a place
unfoldable pub read_groups : List Group → ℕ → List ℕ → List ℕ
read_groups [] at bytes = []
read_groups (g ∷ gs) at bytes = fields_in g.widths (number_at g.bytes at bytes) ++ read_groups gs (at + g.bytes) bytes

-- writing: the bytes of the groups with these fields
unfoldable pub write_groups : List Group → List ℕ → List ℕ
write_groups [] vs = []
write_groups (g ∷ gs) vs = bytes_of g.bytes (number_of g.widths vs) ++ write_groups gs (drop (length g.widths) vs)

-- bytes behind their length, in two bytes
unfoldable pub framed : List ℕ → List ℕ
framed bytes = bytes_of word_bytes (length bytes) ++ bytes
