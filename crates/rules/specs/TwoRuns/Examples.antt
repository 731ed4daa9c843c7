-- Demand 3, shown by computing: pairs of lists that meet its suppositions and differ in DATA, and for each supposition one pair or more
-- that break it alone and look different.
use Rattle.std.specs.Prelude.{ℕ, Bool, true, false, not, ◌&&◌, List, [], ◌∷◌, ◌++◌, map, eqb, length, replicate}
use Rattle.rules.specs.Choice.{bit, joined, same}
use Rattle.rules.specs.Numbers.{terminal_area, message_area}
use Rattle.rules.specs.Messages.Forms.{revision_size}
use Rattle.rules.specs.Screen.{SP, DEL}
use Rattle.rules.specs.State.{codes}
use Rattle.rules.specs.Token.{ESC, BRACKET}
use Rattle.rules.specs.Editing.{delete_word_key}
use Rattle.rules.specs.Calls.{Event, key, step, message, Call, message_bytes, run}
use Rattle.rules.specs.Bench.{set_of_code}
use Rattle.rules.specs.TwoRuns.{suppositions, in_band, Seen, seen}

-- the same to everyone, as a test
unfoldable pub same_seen : List Seen → List Seen → Bool
same_seen [] [] = true
same_seen [] (y ∷ ys) = false
same_seen (x ∷ xs) [] = false
same_seen (x ∷ xs) (y ∷ ys) =
    eqb x.number y.number &&
    same x.terminal y.terminal &&
    eqb x.terminal_count y.terminal_count &&
    same x.messages y.messages &&
    eqb x.message_count y.message_count &&
    eqb x.dropped_count y.dropped_count &&
    same_seen xs ys

unfoldable pub looks_same : List (Call ℕ) → List (Call ℕ) → Bool
looks_same cs ds = same_seen (map seen (run codes cs)) (map seen (run codes ds))

-- every byte that the host reads
unfoldable pub host_reads : List (Call ℕ) → List ℕ
host_reads cs = joined (map (λ a. message_bytes codes a.turn) (run codes cs))

-- calls in full areas, after Initiate
abbrev pub full : Event ℕ → Call ℕ
full e = record { terminal = terminal_area; messages = message_area; event = e }

unfoldable pub conversation : List (Event ℕ) → List (Call ℕ)
conversation es = map full (message (0x01 ∷ 0x00 ∷ 0x01 ∷ 0x00 ∷ 0x00 ∷ replicate revision_size SP) ∷ es)

-- a Start Read of 80 characters with these flags and this termination set
unfoldable pub reading : List ℕ → List ℕ → Event ℕ
reading flags set =
    message (0x02 ∷ (flags ++ (0x50 ∷ (replicate 11 0x00 ++ (length set ∷ set)))))

-- N: no echo; raising besides; ZZ 1 for a set of its own
abbrev pub silent : List ℕ
silent = 0x01 ∷ 0x88 ∷ 0x00 ∷ []

abbrev pub silent_raising : List ℕ
silent_raising = 0x81 ∷ 0x88 ∷ 0x00 ∷ []

abbrev pub echoing : List ℕ
echoing = 0x01 ∷ 0x80 ∷ 0x00 ∷ []

abbrev pub recognising : List ℕ
recognising = 0x01 ∷ 0x88 ∷ 0x02 ∷ []

abbrev pub own_set : List ℕ
own_set = 0x01 ∷ 0x48 ∷ 0x00 ∷ []

abbrev pub own_set_raising : List ℕ
own_set_raising = 0x81 ∷ 0x48 ∷ 0x00 ∷ []

abbrev pub no_set : List ℕ
no_set = []

-- two lists of calls, and which suppositions hold of them, in their order
pub record Pair : Type 0 where
  pub first : List (Call ℕ)
  pub second : List (Call ℕ)
  pub holding : List ℕ

-- the same events in front, then two ways to type
abbrev pub pair : List (Event ℕ) → List ℕ → List ℕ → List ℕ → Pair
pair before one other holding =
    record
    { first = conversation (before ++ map key one); second = conversation (before ++ map key other); holding = holding }

unfoldable pub meets : Pair → Bool
meets p = same (map bit (suppositions in_band p.first p.second)) p.holding

-- Passcodes typed into a read with no echo, rubbed out in part, raised, ended by CR.
unfoldable pub passcodes : List Pair
passcodes =
    -- "a7", DEL, "bc" or "z3", DEL, "Qq"
    pair (reading silent_raising no_set ∷ [])
    (0x61 ∷ 0x37 ∷ DEL ∷ 0x62 ∷ 0x63 ∷ 0x0D ∷ [])
    (0x7A ∷ 0x33 ∷ DEL ∷ 0x51 ∷ 0x71 ∷ 0x0D ∷ [])
    (replicate 8 1) ∷
    -- with accents: "üé", DEL, "éü÷", or the first and last printing marks, "¡þ", DEL, "!~é"; none of these is a word character
    pair (reading silent_raising no_set ∷ [])
    (0xFC ∷ 0xE9 ∷ DEL ∷ 0xE9 ∷ 0xFC ∷ 0xF7 ∷ 0x0D ∷ [])
    (0xA1 ∷ 0xFE ∷ DEL ∷ 0x21 ∷ 0x7E ∷ 0xE9 ∷ 0x0D ∷ [])
    (replicate 8 1) ∷ []

-- it looks the same, and the host reads another DATA
unfoldable pub is_hidden : Pair → Bool
is_hidden p = meets p && looks_same p.first p.second && not (same (host_reads p.first) (host_reads p.second))

-- each breaks one supposition
unfoldable pub broken : List Pair
broken =
    -- lent areas of different lengths
    record {
      first = full step ∷ [];
      second = record { terminal = 0; messages = message_area; event = step } ∷ [];
      holding = 0 ∷ 1 ∷ 1 ∷ 1 ∷ 1 ∷ 1 ∷ 1 ∷ 1 ∷ [];
    } ∷
    -- not a printing mark: "-" is data, DEL finds nothing to delete
    pair (reading silent no_set ∷ []) (0x2D ∷ []) (DEL ∷ []) (1 ∷ 0 ∷ 1 ∷ 1 ∷ 1 ∷ 1 ∷ 1 ∷ 1 ∷ []) ∷
    -- another word class: 23 leaves "-" of "-1x" and "--" of "--x"
    pair (reading silent no_set ∷ []) (0x2D ∷ 0x31 ∷ 0x78 ∷ delete_word_key ∷ 0x0D ∷ []) (0x2D ∷ 0x2D ∷ 0x78 ∷ delete_word_key ∷ 0x0D ∷ [])
    (1 ∷ 1 ∷ 0 ∷ 1 ∷ 1 ∷ 1 ∷ 1 ∷ 1 ∷ []) ∷
    -- and so of "é" and "e": 23 leaves "-é" of "-éx" and "-" of "-ex"
    pair (reading silent no_set ∷ []) (0x2D ∷ 0xE9 ∷ 0x78 ∷ delete_word_key ∷ 0x0D ∷ []) (0x2D ∷ 0x65 ∷ 0x78 ∷ delete_word_key ∷ 0x0D ∷ [])
    (1 ∷ 1 ∷ 0 ∷ 1 ∷ 1 ∷ 1 ∷ 1 ∷ 1 ∷ []) ∷
    -- out-of-band: "1" is a hello character
    pair (message (0x0B ∷ 0x00 ∷ 0x02 ∷ 0x02 ∷ 0x31 ∷ 0xFF ∷ 0x03 ∷ []) ∷ []) (0x31 ∷ []) (0x32 ∷ [])
    (1 ∷ 1 ∷ 1 ∷ 0 ∷ 1 ∷ 1 ∷ 1 ∷ 1 ∷ []) ∷
    -- an echoing read
    pair (reading echoing no_set ∷ []) (0x31 ∷ []) (0x32 ∷ []) (1 ∷ 1 ∷ 1 ∷ 1 ∷ 0 ∷ 1 ∷ 1 ∷ 1 ∷ []) ∷
    -- an escape sequence: 27 91 65 is whole, 27 91 48 is not
    pair (reading recognising no_set ∷ []) (ESC ∷ BRACKET ∷ 65 ∷ []) (ESC ∷ BRACKET ∷ 48 ∷ []) (1 ∷ 1 ∷ 1 ∷ 1 ∷ 1 ∷ 0 ∷ 1 ∷ 1 ∷ []) ∷
    -- the termination set has "a"
    pair (reading own_set (set_of_code 0x61) ∷ []) (0x61 ∷ []) (0x62 ∷ []) (1 ∷ 1 ∷ 1 ∷ 1 ∷ 1 ∷ 1 ∷ 0 ∷ 1 ∷ []) ∷
    -- the termination set has "A", the raised form of "a", or "É", that of "é"
    pair (reading own_set_raising (set_of_code 0x41) ∷ []) (0x61 ∷ []) (0x62 ∷ []) (1 ∷ 1 ∷ 1 ∷ 1 ∷ 1 ∷ 1 ∷ 1 ∷ 0 ∷ []) ∷
    pair (reading own_set_raising (set_of_code 0xC9) ∷ []) (0xE9 ∷ []) (0xEA ∷ []) (1 ∷ 1 ∷ 1 ∷ 1 ∷ 1 ∷ 1 ∷ 1 ∷ 0 ∷ []) ∷ []

unfoldable pub shows : Pair → Bool
shows p = meets p && not (looks_same p.first p.second)
