-- How long messages are: by their forms, and by the lengths of their spans.
use mathlib.Core.Path.{◌≡◌, refl, sym, ap, ap₂, ◌∙◌}
use Prim.Native.Nat.{ℕ, zero, suc, ◌+◌, ◌-◌, ◌%◌, ◌≤◌}
use native.Mathlib.Nat.{mod-eq_of_lt}
use native.Mathlib.Omega.{arith}
use mathlib.Core.Bool.{true}
use mathlib.Core.List.{List, [], ◌∷◌, ◌++◌, map, zip_with}
use lib.Dec.{leb}
use lib.ListN.{length, take, drop, length-append, length-take, length-drop}
use lib.Seq.{length-take-le}
use borrow.Author.Tests.{le-leb, leb-true}
use Rattle.rules.specs.Choice.{all_are, joined}
use Rattle.rules.specs.Calls.{sent_bytes}
use Rattle.rules.specs.Messages.Layout as layout
use Rattle.rules.specs.Messages.Layout.{write_groups, framed}
use Rattle.rules.specs.Messages.Parameters.{Shape, initiation, question, setting, limits_of, parameter_size, cleaned, cut}
use Rattle.rules.specs.Messages.Forms as forms
use Rattle.rules.specs.Messages.Forms.{Tail, nothing, text, set_and_text, list, Form, form_of}
use Rattle.rules.specs.Messages.Codec.{tail_bytes, bytes_as, held_bytes}
use Rattle.rules.proofs.Choice.{both, quarters, all_cons}
use Rattle.rules.proofs.Fields.{length-write_groups}
use Rattle.rules.proofs.Parameters.{joined-cut}
use Rattle.fields.specs.declared.Span.{Span}
use Rattle.message.specs.declared.Message.{Message}
use Rattle.message.specs.declared.Message.TheVariants.{Initiate, StartRead, ReadData, OutOfBand, Unread, ClearInput, Write}
use Rattle.message.specs.declared.Message.TheVariants.{WriteCompletion, DiscardState, ReadCharacteristics, Characteristics}
use Rattle.message.specs.declared.Message.TheVariants.{CheckInput, InputCount, InputState, Other}
use Rattle.fields.specs.Spans.{span_of}
use Rattle.message.specs.Found.{parameters_of, start_read_in, held_in, span_list_of, lies, all_lie}
use Rattle.parameters.proofs.Walk.{size_taken, size_least}
use Rattle.fronts.specs.Front.{front_tail, front_bytes}
use Rattle.writing.specs.Spans as spans
use Rattle.writing.specs.declared.spans.Spans.{Spans}
use Rattle.writing.specs.Spans.{spans_of, inside}
use Rattle.writing.specs.Framed.{Sendable}

-- A parameter list: cleaning keeps the length, whole or not.
module _ (shape : Shape) where
  abbrev IsShort : List ℕ → Type 0
  IsShort p = length p ≤ parameter_size shape p

  -- what is cut is no longer than it should be
  pub cut_short : (n : ℕ) (xs : List ℕ) → all_are (λ p. leb (length p) (parameter_size shape p)) (cut shape n xs) ≡ true
  unfolding cut all_are
  cut_short zero [] = refl
  cut_short (suc n) [] = refl
  cut_short (suc n) (x ∷ xs) = cut_short n xs
  cut_short zero (x ∷ xs) =
      let size = parameter_size shape (x ∷ xs) in
      let l = length-take size (x ∷ xs) in
      let same = size_taken shape size (x ∷ xs) (size_least shape (x ∷ xs)) in
      both (le-leb (length (take size (x ∷ xs))) (parameter_size shape (take size (x ∷ xs))) (omega arith)) (cut_short (size - 1) xs)

  pub cleaned-length : (p : List ℕ) → IsShort p → length (cleaned shape p) ≡ length p
  unfolding cleaned parameter_size zip_with
  cleaned-length p h = zipped p (256 ∷ 256 ∷ limits_of shape p) (omega arith)
    where
      zipped : (p ls : List ℕ) → length p ≤ length ls → length (zip_with ◌%◌ p ls) ≡ length p
      zipped [] ls h = refl
      zipped (b ∷ p) [] h = absurd (omega arith)
      zipped (b ∷ p) (l ∷ ls) h = ap suc (zipped p ls (omega arith))

  joined_length : (ps : List (List ℕ)) → all_are (λ p. leb (length p) (parameter_size shape p)) ps ≡ true →
      length (joined (map (cleaned shape) ps)) ≡ length (joined ps)
  unfolding joined
  joined_length [] e = refl
  joined_length (p ∷ ps) e =
      let h = all_cons _ p ps e in
      length-append (cleaned shape p) (joined (map (cleaned shape) ps)) ∙
      ap₂ ◌+◌ (cleaned-length p (leb-true _ _ h.0)) (joined_length ps h.1) ∙
      sym (length-append p (joined ps))

  pub list_length : (xs : List ℕ) → length (joined (map (cleaned shape) (cut shape zero xs))) ≡ length xs
  list_length xs = joined_length (cut shape zero xs) (cut_short zero xs) ∙ ap length (joined-cut shape zero xs)

-- A message, by its form.
form_length : (f : Form) (x : forms.Message ℕ) → length (bytes_as f x) ≡ 1 + layout.size_of f.head + length (tail_bytes f.tail x)
unfolding bytes_as
form_length f x =
    let n = length-write_groups f.head x.numbers in
    let l = length-append (write_groups f.head x.numbers) (tail_bytes f.tail x) in
    omega arith

module _ (s : List ℕ) where
  -- by the bytes that there are of its spans
  abbrev size_in : Spans → ℕ
  size_in p = p.header + length (span_of s p.list) + length (span_of s p.set) + length (span_of s p.text)

  listed : (kind header : ℕ) (shape : Shape) (p : Span) (x : forms.Message ℕ) → (form_of kind).tail ≡ list shape →
      1 + layout.size_of (form_of kind).head ≡ header → x.parameters ≡ parameters_of shape s p →
      length (bytes_as (form_of kind) x) ≡ size_in (spans.with_list kind header p)
  unfolding tail_bytes parameters_of span_of
  listed kind header shape p x is size e =
      let f = form_length (form_of kind) x in
      let tail : length (tail_bytes (form_of kind).tail x) ≡ length (joined x.parameters) = ap (λ t. length (tail_bytes t x)) is in
      let params = ap (λ ps. length (joined ps)) e in
      let l = list_length shape (take p.len (drop p.start s)) in
      omega arith

  pub held_length : (m : Message) → length (held_bytes (held_in s m)) ≡ size_in (spans_of m)
  unfolding held_in start_read_in held_bytes spans_of form_of forms.forms layout.size_of tail_bytes span_of
  held_length (Initiate f) = listed 1 13 initiation f.parameters _ refl refl refl
  held_length (StartRead f) =
      let l = form_length (form_of 2) (start_read_in s f) in
      let n = length-append (span_of s f.set) (span_of s f.text) in
      omega arith
  held_length (ReadData f) = form_length (form_of 3) _
  held_length (OutOfBand discard character) = form_length (form_of 4) _
  held_length (Unread condition) = form_length (form_of 5) _
  held_length ClearInput = form_length (form_of 6) _
  held_length (Write f) = form_length (form_of 7) _
  held_length (WriteCompletion lost horizontal vertical) = form_length (form_of 8) _
  held_length (DiscardState kept) = form_length (form_of 9) _
  held_length (ReadCharacteristics p) = listed 10 2 question p _ refl refl refl
  held_length (Characteristics p) = listed 11 2 setting p _ refl refl refl
  held_length CheckInput = form_length (form_of 12) _
  held_length (InputCount count) = form_length (form_of 13) _
  held_length (InputState nonzero) = form_length (form_of 14) _
  held_length (Other kind body) = omega arith

  -- Where the spans lie in the slice, their own lengths say it.
  span_length : (p : Span) → lies (length s) p ≡ true → length (span_of s p) ≡ p.len
  unfolding span_of
  span_length p e =
      let h = leb-true (p.start + p.len) (length s) e in
      let d = length-drop p.start s in
      length-take-le p.len (drop p.start s) (omega arith)

  pub spans_length : (p : Spans) → inside (length s) p ≡ true →
      (length (span_of s p.list) ≡ p.list.len) × (length (span_of s p.set) ≡ p.set.len) ×
      (length (span_of s p.text) ≡ p.text.len) × (length (span_of s p.revision) ≡ p.revision.len)
  unfolding inside
  spans_length p e =
      let n = length s in
      let h = quarters (lies n p.list) (lies n p.set) (lies n p.text) (lies n p.revision) e in
      (span_length p.list h.0, span_length p.set h.1, span_length p.text h.2, span_length p.revision h.3)

  pub inside-length : (m : Message) → inside (length s) (spans_of m) ≡ true → spans.spanned_size (spans_of m) ≡ length (held_bytes (held_in s m))
  inside-length m e =
      let h = spans_length (spans_of m) e in
      let list = h.0 in
      let set = h.1 in
      let text = h.2 in
      omega (arith, held_length m)

-- Where every span of a message lies in the slice, so do the four that it is written by.
module _ (size : ℕ) where
  abbrev Lies : Span → Type 0
  Lies p = lies size p ≡ true

  none_lies : Lies spans.none
  none_lies = le-leb 0 size (omega arith)

  four_lie : (p : Spans) → Lies p.list → Lies p.set → Lies p.text → Lies p.revision → inside size p ≡ true
  unfolding inside
  four_lie p l s t r = both (both (both l s) t) r

  first_lies : (p : Span) (ps : List Span) → all_are (lies size) (p ∷ ps) ≡ true → Lies p
  first_lies p ps e = (all_cons (lies size) p ps e).0

  bare-inside : (kind header : ℕ) → inside size (spans.bare kind header) ≡ true
  bare-inside kind header = four_lie _ none_lies none_lies none_lies none_lies

  pub all_inside : (m : Message) → all_lie size m ≡ true → inside size (spans_of m) ≡ true
  unfolding span_list_of spans_of
  all_inside (Initiate f) e =
      let h = all_cons (lies size) f.revision (f.parameters ∷ []) e in
      four_lie _ (first_lies f.parameters [] h.1) none_lies none_lies h.0
  all_inside (StartRead f) e =
      let h = all_cons (lies size) f.set (f.text ∷ []) e in
      four_lie _ none_lies h.0 (first_lies f.text [] h.1) none_lies
  all_inside (ReadData f) e = four_lie _ none_lies none_lies (first_lies f.text [] e) none_lies
  all_inside (OutOfBand discard character) e = bare-inside 4 3
  all_inside (Unread condition) e = bare-inside 5 2
  all_inside ClearInput e = bare-inside 6 2
  all_inside (Write f) e = four_lie _ none_lies none_lies (first_lies f.text [] e) none_lies
  all_inside (WriteCompletion lost horizontal vertical) e = bare-inside 8 6
  all_inside (DiscardState kept) e = bare-inside 9 2
  all_inside (ReadCharacteristics p) e = four_lie _ (first_lies p [] e) none_lies none_lies none_lies
  all_inside (Characteristics p) e = four_lie _ (first_lies p [] e) none_lies none_lies none_lies
  all_inside CheckInput e = bare-inside 12 2
  all_inside (InputCount count) e = bare-inside 13 4
  all_inside (InputState nonzero) e = bare-inside 14 2
  all_inside (Other kind body) e = four_lie _ none_lies none_lies (first_lies body [] e) none_lies

-- A message that a line sends.
module _ {s : List ℕ} {m : Message} {x : forms.Message ℕ} (h : Sendable s m x) where
  same_tail : (t : Tail) → front_tail t x ≡ tail_bytes t x
  unfolding front_tail tail_bytes joined
  same_tail nothing = refl
  same_tail text = refl
  same_tail set_and_text = ap (λ n. n ∷ (x.set ++ x.text)) (let n = h.set in mod-eq_of_lt (omega arith))
  same_tail (list shape) = ap joined (sym h.listless)

  pub sent_front : front_bytes (held_in s m) ≡ sent_bytes x
  unfolding front_bytes sent_bytes bytes_as
  sent_front =
      ap front_bytes h.held ∙
      ap (λ t. x.kind ∷ (write_groups (form_of x.kind).head x.numbers ++ t)) (same_tail (form_of x.kind).tail)

  pub sent_framed : layout.bytes_of 2 (spans.spanned_size (spans_of m)) ++ front_bytes (held_in s m) ≡ framed (sent_bytes x)
  unfolding framed sent_bytes held_bytes
  sent_framed =
      ap₂ (λ n b. layout.bytes_of 2 n ++ b) (inside-length s m h.lie ∙ ap (λ y. length (held_bytes y)) h.held) sent_front
