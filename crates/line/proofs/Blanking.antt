-- The walk of a message area: of messages that stand one behind the other it blanks DATA and nothing else.
use mathlib.Core.Path.{◌≡◌, refl, sym, ap, ◌∙◌}
use Prim.Native.Nat.{ℕ, ◌+◌, ◌*◌, ◌/◌, ◌%◌, ◌-◌, ◌^◌, ◌<◌}
use native.Mathlib.Omega.{arith}
use mathlib.Core.Bool.{false}
use mathlib.Core.List.{List, [], ◌∷◌, ◌++◌, map, append_assoc, append-nil}
use lib.Dec.{eqb}
use lib.ListN.{length, length-append, length-map}
use borrow.Author.Tests.{eqb-true, eq-eqb}
use Rattle.rules.specs.Choice.{pick, joined}
use Rattle.rules.specs.State.{codes}
use Rattle.rules.specs.Messages.Layout.{fields_in, size_of, bytes_of, write_groups, framed}
use Rattle.rules.specs.Messages.Forms.{Message, forms, form_of, read_data}
use Rattle.rules.specs.Messages.Codec.{tail_bytes, bytes_as}
use Rattle.rules.specs.Calls.{map_text, sent_bytes}
use Rattle.rules.specs.TwoRuns.{blanked}
use Rattle.rules.proofs.Choice.{pick_true, pick-false, pick_case}
use Rattle.rules.proofs.Fields.{length-write_groups}
use Rattle.rules.proofs.Bounds.Sent.{area_of, area_append, area_one, map_text_same}
use Rattle.line.specs.Chains.{hidden_bytes, outside_data}

abbrev blanks : List ℕ → List ℕ
blanks xs = map (λ c. 0) xs

shows_front : (xs ys : List ℕ) (hide : ℕ) → outside_data (length xs) hide (xs ++ ys) ≡ xs ++ outside_data 0 hide ys
unfolding outside_data
shows_front [] ys hide = refl
shows_front (x ∷ xs) ys hide = ap (λ r. x ∷ r) (shows_front xs ys hide)

hides_front : (xs ys : List ℕ) → outside_data 0 (length xs) (xs ++ ys) ≡ blanks xs ++ outside_data 0 0 ys
unfolding outside_data
hides_front [] ys = refl
hides_front (x ∷ xs) ys = ap (λ r. 0 ∷ r) (hides_front xs ys)

-- One message: its type in front of what is shown and what is hidden, and more behind it.
module _ (kind : ℕ) (shown hidden more : List ℕ) where
  abbrev size : ℕ
  size = length (kind ∷ (shown ++ hidden))

  walks_one : size < 65536 → hidden_bytes kind size ≡ length hidden →
      outside_data 0 0 (framed (kind ∷ (shown ++ hidden)) ++ more) ≡ framed (kind ∷ (shown ++ blanks hidden)) ++ outside_data 0 0 more
  unfolding outside_data framed fields_in
  walks_one small h =
      let low = size % 2 ^ 8 in
      let high = size / 2 ^ 8 % 2 ^ 8 in
      let whole : low + 256 * high ≡ size = omega arith in
      let hide : hidden_bytes kind (low + 256 * high) ≡ length hidden = ap (hidden_bytes kind) whole ∙ h in
      let l = length-append shown hidden in
      let show : 1 + (low + 256 * high) - hidden_bytes kind (low + 256 * high) ≡ length (high ∷ kind ∷ shown) = omega arith in
      let same : size ≡ length (kind ∷ (shown ++ blanks hidden)) = simp (length-append, length-map) in
      (λ i. low ∷ outside_data (show i) (hide i) (high ∷ kind ∷ append_assoc shown hidden more i))
      ∙ ap (λ r. low ∷ r) (shows_front (high ∷ kind ∷ shown) (hidden ++ more) (length hidden))
      ∙ ap (λ r. low ∷ high ∷ kind ∷ (shown ++ r)) (hides_front hidden more)
      ∙ ap (λ r. low ∷ high ∷ kind ∷ r) (sym (append_assoc shown (blanks hidden) (outside_data 0 0 more)))
      ∙ ap (λ n. bytes_of 2 n ++ (kind ∷ ((shown ++ blanks hidden) ++ outside_data 0 0 more))) same

-- a Read Data shows its type and head, and hides its text
data_bytes : (m : Message ℕ) → m.kind ≡ read_data → sent_bytes m ≡ m.kind ∷ (write_groups (form_of read_data).head m.numbers ++ m.text)
unfolding sent_bytes bytes_as tail_bytes form_of forms
data_bytes m e = ap (λ k. bytes_as (form_of k) m) e

data_walks : (m : Message ℕ) (more : List ℕ) → m.kind ≡ read_data → length (sent_bytes m) < 65536 →
    outside_data 0 0 (framed (sent_bytes m) ++ more) ≡ framed (sent_bytes (map_text (λ c. 0) m)) ++ outside_data 0 0 more
unfolding map_text hidden_bytes size_of form_of forms
data_walks m more e small =
    let head = write_groups (form_of read_data).head m.numbers in
    let bytes = data_bytes m e in
    let n = length-write_groups (form_of read_data).head m.numbers in
    let l = length-append head m.text in
    let count : length (m.kind ∷ (head ++ m.text)) - 8 ≡ length m.text = omega arith in
    let room : length (m.kind ∷ (head ++ m.text)) < 65536 = rw bytes at small in
    ap (λ b. outside_data 0 0 (framed b ++ more)) bytes
    ∙ walks_one m.kind head m.text more room (pick_true _ _ (eq-eqb _ _ e) ∙ count)
    ∙ ap (λ b. framed b ++ outside_data 0 0 more) (sym (data_bytes (map_text (λ c. 0) m) e))

-- any other shows all
plain_walks : (m : Message ℕ) (more : List ℕ) → eqb m.kind read_data ≡ false → length (sent_bytes m) < 65536 →
    outside_data 0 0 (framed (sent_bytes m) ++ more) ≡ framed (sent_bytes m) ++ outside_data 0 0 more
unfolding sent_bytes bytes_as hidden_bytes
plain_walks m more e small =
    let rest = write_groups (form_of m.kind).head m.numbers ++ tail_bytes (form_of m.kind).tail m in
    let all = append-nil rest in
    let room : length (m.kind ∷ (rest ++ [])) < 65536 = rw all small in
    rw all at (walks_one m.kind rest [] more room (pick-false _ _ e))

message_walks : (m : Message ℕ) (more : List ℕ) → length (sent_bytes m) < 65536 →
    outside_data 0 0 (framed (sent_bytes m) ++ more) ≡ framed (sent_bytes (blanked m)) ++ outside_data 0 0 more
unfolding blanked
message_walks m more small =
    pick_case (λ b. outside_data 0 0 (framed (sent_bytes m) ++ more) ≡ framed (sent_bytes b) ++ outside_data 0 0 more)
    (eqb m.kind read_data)
    (λ e. data_walks m more (eqb-true _ _ e) small)
    (λ e. plain_walks m more e small)

-- a message area, in which every message's length fits its two bytes
pub area_walks : (ms : List (Message ℕ)) → area_of ms < 65536 →
    outside_data 0 0 (joined (map (λ m. framed (sent_bytes (map_text codes.code m))) ms)) ≡ joined (map (λ m. framed (sent_bytes (blanked m))) ms)
unfolding joined outside_data
area_walks [] small = refl
area_walks (m ∷ ms) small =
    let rest = joined (map (λ m. framed (sent_bytes (map_text codes.code m))) ms) in
    let both = area_append (m ∷ []) ms in
    let one = area_one m in
    ap (λ k. outside_data 0 0 (framed (sent_bytes k) ++ rest)) (map_text_same m)
    ∙ message_walks m rest (omega arith)
    ∙ ap (λ r. framed (sent_bytes (blanked m)) ++ r) (area_walks ms (omega arith))

-- as it looks: between two Out-of-Band, of bench case B's Read Data only 33 35 0D are hidden
walked :
    outside_data 0 0
    (0x03 ∷ 0x00 ∷ 0x04 ∷ 0x00 ∷ 0x03 ∷
    0x0B ∷ 0x00 ∷ 0x03 ∷ 0x00 ∷ 0x02 ∷ 0x00 ∷ 0x01 ∷ 0x00 ∷ 0x02 ∷ 0x00 ∷ 0x33 ∷ 0x35 ∷ 0x0D ∷
    0x03 ∷ 0x00 ∷ 0x04 ∷ 0x00 ∷ 0x07 ∷ [])
    ≡
    0x03 ∷ 0x00 ∷ 0x04 ∷ 0x00 ∷ 0x03 ∷
    0x0B ∷ 0x00 ∷ 0x03 ∷ 0x00 ∷ 0x02 ∷ 0x00 ∷ 0x01 ∷ 0x00 ∷ 0x02 ∷ 0x00 ∷ 0x00 ∷ 0x00 ∷ 0x00 ∷
    0x03 ∷ 0x00 ∷ 0x04 ∷ 0x00 ∷ 0x07 ∷ []
unfolding outside_data hidden_bytes pick
walked = refl
