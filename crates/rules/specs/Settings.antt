-- Requests M-100 and M-107: the settings record, forms 1 and 2: its bytes, what it says, asking for a section, and loading.
pub mod Moving
use Rattle.std.specs.Prelude.{ℕ, zero, suc, ◌+◌, ◌-◌, ◌*◌, ◌≤◌, ◌<◌, ◌≡◌, Bool, true, false, not, ◌&&◌, ◌||◌, List, [], ◌∷◌, ◌++◌, map, leb, ltb, eqb, length, take, drop, get_or, set, replicate}
use Rattle.std.proofs.Math.Option.{Option, none, some}
use Rattle.rules.specs.Choice.{pick, within, is_on, bit, is_empty, all_are, joined}
use Rattle.rules.specs.Numbers.{code_count}
use Rattle.rules.specs.Messages.Layout.{byte_bits, word_bytes, byte_at, number_at, bytes_of, framed}
use Rattle.rules.specs.Messages.Parameters.{one_bit, seven_bits, character_attributes, raise_input, normal_echo, escape_recognition, auto_prompt}
use Rattle.rules.specs.Messages.Codec.{set_size, all_bytes}
use Rattle.rules.specs.StartRead.{in_set}
use Rattle.rules.specs.State.{Switches, Host, with_host}
use Rattle.rules.specs.Turns.{Rule, changes}
use Rattle.rules.specs.Characteristics.{whole_mask, is_deferred_clear}

-- The record: a byte for its form, then sections, each after its length in two bytes, low byte first.

-- the first byte is the form
abbrev pub form_in : List ℕ → ℕ
form_in bytes = byte_at bytes 0

abbrev pub form1 : ℕ
form1 = 1

abbrev pub form2 : ℕ
form2 = 2

unfoldable pub is_form : ℕ → Bool
is_form form = eqb form form1 || eqb form form2

abbrev pub behind_form : List ℕ → List ℕ
behind_form bytes = drop 1 bytes

-- the sections, in this order
abbrev pub characteristics_section : ℕ
characteristics_section = 1

abbrev pub attributes_section : ℕ
attributes_section = 2

abbrev pub set_section : ℕ
set_section = 3

abbrev pub largest_read_section : ℕ
largest_read_section = 4

abbrev pub section_count : ℕ
section_count = largest_read_section

-- where a section's length stands: the length, the section, and what stands behind it
abbrev pub section_length : List ℕ → ℕ
section_length rest = number_at word_bytes 0 rest

unfoldable pub front_section : List ℕ → List ℕ
front_section rest = take (section_length rest) (drop word_bytes rest)

unfoldable pub behind_section : List ℕ → List ℕ
behind_section rest = drop (word_bytes + section_length rest) rest

-- so many sections, none cut short, and nothing behind the last
unfoldable pub are_whole : ℕ → List ℕ → Bool
are_whole zero rest = is_empty rest
are_whole (suc n) rest = leb (word_bytes + section_length rest) (length rest) && are_whole n (behind_section rest)

-- the section behind so many others
unfoldable pub section_behind : ℕ → List ℕ → List ℕ
section_behind zero rest = front_section rest
section_behind (suc n) rest = section_behind n (behind_section rest)

-- section n, counted from 1
unfoldable pub section_in : ℕ → List ℕ → List ℕ
section_in n bytes = section_behind (n - 1) (behind_form bytes)

-- What each section may hold.

-- Characteristics, none or all four: selector, low byte first, value; ascending.
abbrev pub switch_size : ℕ
switch_size = 3

abbrev pub switch_count : ℕ
switch_count = 4

-- where the switches stand, the first at 0, and each one's value behind its selector
abbrev pub switch_at : ℕ → ℕ
switch_at n = n * switch_size

abbrev pub switch_value : List ℕ → ℕ → ℕ
switch_value bytes n = byte_at bytes (switch_at n + word_bytes)

unfoldable pub is_switch : List ℕ → ℕ → ℕ → Bool
is_switch bytes n selector = eqb (number_at word_bytes (switch_at n) bytes) selector && ltb (switch_value bytes n) one_bit

unfoldable pub sound_switches : List ℕ → Bool
sound_switches bytes =
    is_empty bytes ||
    eqb (length bytes) (switch_at switch_count) &&
    is_switch bytes 0 raise_input &&
    is_switch bytes 1 normal_echo &&
    is_switch bytes 2 escape_recognition &&
    is_switch bytes 3 auto_prompt

-- Character attributes: code, value, unused bits 0; ascending, zeros left out; none deferred-clear.
unfoldable pub is_listed : ℕ → Bool
is_listed value = within 1 whole_mask value && not (is_deferred_clear value)

-- the codes of the pairs ascend from a least one
unfoldable pub sound_pairs : ℕ → List ℕ → Bool
sound_pairs least [] = true
sound_pairs least (code ∷ []) = false
sound_pairs least (code ∷ value ∷ rest) = leb least code && is_listed value && sound_pairs (suc code) rest

-- Termination set bytes: no trailing zero byte.
unfoldable pub sound_set : List ℕ → Bool
sound_set bytes = is_empty bytes || leb (length bytes) set_size && not (eqb (byte_at bytes (length bytes - 1)) 0)

-- Largest read, the only section in which the forms differ: none, or in form 1 one byte, 0 to 132, and in form 2 two, low byte first, 0 to 1,024.
unfoldable pub largest_read_bytes : ℕ → ℕ
largest_read_bytes form = pick (eqb form form1) 1 word_bytes

unfoldable pub top_largest_read : ℕ → ℕ
top_largest_read form = pick (eqb form form1) 132 1024

-- a byte that is not there counts 0, so this is what either form's section says
abbrev pub largest_read_in : List ℕ → ℕ
largest_read_in bytes = number_at word_bytes 0 bytes

unfoldable pub sound_largest_read : ℕ → List ℕ → Bool
sound_largest_read form bytes = is_empty bytes || eqb (length bytes) (largest_read_bytes form) && leb (largest_read_in bytes) (top_largest_read form)

unfoldable pub is_sound : List ℕ → Bool
is_sound bytes =
    is_form (form_in bytes) &&
    are_whole section_count (behind_form bytes) &&
    sound_switches (section_in characteristics_section bytes) &&
    sound_pairs 0 (section_in attributes_section bytes) &&
    sound_set (section_in set_section bytes) &&
    sound_largest_read (form_in bytes) (section_in largest_read_section bytes)

-- What it says.

unfoldable pub switches_in : List ℕ → Switches
switches_in bytes =
    record {
      raising = is_on (switch_value bytes 0);
      echoing = is_on (switch_value bytes 1);
      recognising = is_on (switch_value bytes 2);
      prompting = is_on (switch_value bytes 3);
    }

-- all 256 attributes: a code that is not listed has 0
unfoldable pub with_pairs : List ℕ → List ℕ → List ℕ
with_pairs [] table = table
with_pairs (code ∷ []) table = table
with_pairs (code ∷ value ∷ rest) table = with_pairs rest (set table code value)

unfoldable pub table_in : List ℕ → List ℕ
table_in bytes = with_pairs bytes (replicate code_count 0)

-- a meaning: each part may be none
pub record Meaning : Type 0 where
  pub switches : Option Switches
  pub attributes : Option (List ℕ)
  -- a test of codes
  pub set : Option (ℕ → Bool)
  pub largest_read : Option ℕ

unfoldable pub unless_empty : {A : Type 0} → (List ℕ → A) → List ℕ → Option A
unless_empty says [] = none
unless_empty says (b ∷ bs) = some (says (b ∷ bs))

unfoldable pub meaning_of : List ℕ → Meaning
meaning_of bytes =
    record {
      switches = unless_empty switches_in (section_in characteristics_section bytes);
      attributes = unless_empty table_in (section_in attributes_section bytes);
      set = unless_empty in_set (section_in set_section bytes);
      largest_read = unless_empty largest_read_in (section_in largest_read_section bytes);
    }

-- Asking: the line's own section when its length is not 0, otherwise the site's; empty when either record breaks a rule.
unfoldable pub are_sound : List ℕ → List ℕ → Bool
are_sound own site = is_sound own && is_sound site

unfoldable pub found_section : ℕ → List ℕ → List ℕ → List ℕ
found_section n own site =
    pick (within characteristics_section section_count n && are_sound own site)
    (pick (is_empty (section_in n own)) (section_in n site) (section_in n own))
    []

-- Loading: each section found not empty acts; what is not found stays as it is.
unfoldable pub found_or : {A : Type 0} → (List ℕ → A) → List ℕ → A → A
found_or says section otherwise = pick (is_empty section) otherwise (says section)

unfoldable pub loaded : List ℕ → List ℕ → Host → Host
loaded own site h =
    record {
      initiated = h.initiated;
      switches = found_or switches_in (found_section characteristics_section own site) h.switches;
      attributes = found_or table_in (found_section attributes_section own site) h.attributes;
      last_set = found_or (λ bytes. bytes) (found_section set_section own site) h.last_set;
      largest_read = found_or largest_read_in (found_section largest_read_section own site) h.largest_read;
    }

-- it writes nothing, sends nothing, and changes nothing else
unfoldable pub loads : {C : Type 0} → List ℕ → List ℕ → Rule C
loads own site = changes (λ s. with_host (loaded own site s.host) s)

-- All of a code's attribute, as the parameter of a Characteristics message that sets it; and a table's, one for each code in order.
abbrev pub attribute_parameter : ℕ → ℕ → List ℕ
attribute_parameter code value = bytes_of word_bytes character_attributes ++ code ∷ whole_mask ∷ value ∷ []

unfoldable pub attribute_parameters_from : ℕ → List ℕ → List (List ℕ)
attribute_parameters_from code [] = []
attribute_parameters_from code (value ∷ table) = attribute_parameter code value ∷ attribute_parameters_from (suc code) table

abbrev pub attribute_parameters : List ℕ → List (List ℕ)
attribute_parameters table = attribute_parameters_from 0 table

-- Writing it: every meaning that a record of a form can have has one of that form, and only one.

-- the switches, each as the parameter that sets it
abbrev pub switch_parameter : ℕ → Bool → List ℕ
switch_parameter n on = bytes_of word_bytes n ++ bit on ∷ []

unfoldable pub switch_parameters : Switches → List (List ℕ)
switch_parameters s =
    switch_parameter raise_input s.raising ∷
    switch_parameter normal_echo s.echoing ∷
    switch_parameter escape_recognition s.recognising ∷
    switch_parameter auto_prompt s.prompting ∷
    []

unfoldable pub switch_bytes : Switches → List ℕ
switch_bytes s = joined (switch_parameters s)

-- the attributes of the codes from one on, each behind its code, zeros left out
unfoldable pub pairs_from : ℕ → List ℕ → List ℕ
pairs_from code [] = []
pairs_from code (value ∷ table) = pick (eqb value 0) (pairs_from (suc code) table) (code ∷ value ∷ pairs_from (suc code) table)

-- so many bits, each 1 where the test holds of its place
unfoldable pub bits_where : ℕ → (ℕ → Bool) → ℕ
bits_where zero test = 0
bits_where (suc width) test = bit (test 0) + 2 * bits_where width (λ c. test (suc c))

-- a byte before others, left out where it is 0 and none follow
unfoldable pub unless_trailing : ℕ → List ℕ → List ℕ
unless_trailing b bytes = pick (eqb b 0 && is_empty bytes) [] (b ∷ bytes)

-- so many set bytes, no trailing zero byte
unfoldable pub set_where : ℕ → (ℕ → Bool) → List ℕ
set_where zero test = []
set_where (suc n) test = unless_trailing (bits_where byte_bits test) (set_where n (λ c. test (byte_bits + c)))

-- a part's section, empty where there is none; all sections, and the record of them
unfoldable pub or_empty : {A : Type 0} → (A → List ℕ) → Option A → List ℕ
or_empty writes none = []
or_empty writes (some part) = writes part

unfoldable pub sections_of : ℕ → Meaning → List (List ℕ)
sections_of form m =
    or_empty switch_bytes m.switches ∷
    or_empty (pairs_from 0) m.attributes ∷
    or_empty (set_where set_size) m.set ∷
    or_empty (bytes_of (largest_read_bytes form)) m.largest_read ∷
    []

unfoldable pub record_of : ℕ → Meaning → List ℕ
record_of form m = form ∷ joined (map framed (sections_of form m))

-- One meaning has at most one record of each form.
abbrev pub OneRecord : Type 0
OneRecord =
    (a b : List ℕ) →
    all_bytes a ≡ true →
    all_bytes b ≡ true →
    is_sound a ≡ true →
    is_sound b ≡ true →
    form_in a ≡ form_in b →
    meaning_of a ≡ meaning_of b →
    a ≡ b

-- The meanings that a record of a form can have.

-- attributes: one for each code, of seven bits, none deferred-clear, not all 0
unfoldable pub is_sayable : ℕ → Bool
is_sayable value = ltb value seven_bits && not (is_deferred_clear value)

pub record SayableTable (table : List ℕ) : Type 0 where
  pub size : length table ≡ code_count
  pub values : all_are is_sayable table ≡ true
  pub listed : (code : ℕ) × (get_or table code 0 ≡ 0 → ⊥)

-- a set: it holds a code, and codes only
pub record SayableSet (test : ℕ → Bool) : Type 0 where
  pub codes : (c : ℕ) → test c ≡ true → c < code_count
  pub member : (c : ℕ) × (test c ≡ true)

-- a largest read: the form holds it
abbrev pub SayableRead : ℕ → Meaning → Type 0
SayableRead form m = (n : ℕ) → m.largest_read ≡ some n → n ≤ top_largest_read form

-- each part, where there is one
pub record Sayable (form : ℕ) (m : Meaning) : Type 0 where
  pub attributes : (table : List ℕ) → m.attributes ≡ some table → SayableTable table
  pub set : (test : ℕ → Bool) → m.set ≡ some test → SayableSet test
  pub largest_read : SayableRead form m

-- Every such meaning has a record: the one that is written.
pub record IsRecordOf (form : ℕ) (m : Meaning) (bytes : List ℕ) : Type 0 where
  pub are_bytes : all_bytes bytes ≡ true
  pub sound : is_sound bytes ≡ true
  pub in_form : form_in bytes ≡ form
  pub means : meaning_of bytes ≡ m

abbrev pub EveryMeaning : Type 0
EveryMeaning = (form : ℕ) (m : Meaning) → is_form form ≡ true → Sayable form m → IsRecordOf form m (record_of form m)
