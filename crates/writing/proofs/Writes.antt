-- Writing to the front of an area: each refusal, and the bytes.
use mathlib.Core.Path.{◌≡◌, refl, sym, ap, ap₂, ◌∙◌}
use Prim.Native.Nat.{ℕ, zero, suc, ◌+◌, ◌*◌, ◌%◌, ◌≤◌}
use native.Mathlib.Nat.{mod-eq_of_lt}
use native.Mathlib.Omega.{arith}
use mathlib.Core.Bool.{Bool, true, false, not, ◌&&◌, false≢true}
use mathlib.Core.List.{List, [], ◌∷◌, ◌++◌, map, zip_with, append-nil}
use lib.Dec.{leb, ltb, eqb}
use lib.ListN.{length, take, replicate}
use borrow.Author.Tests.{ltb-true, ltb-false, leb-true, eqb-true}
use Rattle.rules.specs.Choice.{pick, Row, first_row_answer, is_empty, all_are, joined}
use Rattle.rules.specs.Numbers.{message_size, message_area, accepted, small_area, wrong_length, wrong_type, unsound}
use Rattle.rules.specs.Messages.Layout.{widths_of, fits, write_groups}
use Rattle.rules.specs.Messages.Parameters.{Shape, initiation, question, question_limits, limits_of, cleaned, cut}
use Rattle.rules.specs.Messages.Parameters as parameters
use Rattle.rules.specs.Messages.Forms as forms
use Rattle.rules.specs.Messages.Forms.{form_of, text, set_and_text, list}
use Rattle.rules.specs.Messages.Codec.{Outcome, refused, sound, Held, message, other, all_bytes, defined_kind, defined_fields, fits_tail, fits_as, fits_held}
use Rattle.rules.specs.Messages.Codec.{tail_bytes, bytes_as, held_bytes, kind_of, read, write_refusals, written}
use Rattle.rules.proofs.Choice.{halves, thirds, quarters, pick-false, pick_case, all_cons, all_joined}
use Rattle.rules.proofs.Numbers.{longest_room}
use Rattle.rules.proofs.Outcomes.{refused-sound, sound_same}
use Rattle.rules.proofs.RoundTrip.{round_trip}
use Rattle.rules.proofs.Parameters.{joined-cut}
use Rattle.message.specs.declared.Message.{Message}
use Rattle.message.specs.declared.StartReadFields.{StartReadFields}
use Rattle.message.specs.declared.Message.TheVariants.{Initiate, StartRead, ReadData, OutOfBand, Unread, ClearInput, Write}
use Rattle.message.specs.declared.Message.TheVariants.{WriteCompletion, DiscardState, ReadCharacteristics, Characteristics}
use Rattle.message.specs.declared.Message.TheVariants.{CheckInput, InputCount, InputState, Other}
use Rattle.fields.specs.Spans.{span_of}
use Rattle.message.specs.Found.{Finds, parameters_of, start_read_in, held_in, as_held, found_in, found_inside}
use Rattle.parameters.specs.Lists.{sound_from}
use Rattle.parameters.proofs.Shapes.{is_setting}
use Rattle.message.proofs.Lists.{list_from}
use Rattle.std.specs.Prelude.{Result, Ok}
use Rattle.rules.specs.declared.refusals.Refusal.{Refusal}
use Rattle.rules.specs.Refusals.{answered}
use Rattle.areas.specs.InFront.{written as length_said}
use Rattle.areas.specs.InFront.{InFront}
use Rattle.areas.proofs.InFront.{answers_as_lem, answer_accepted, front_bytes_lem}
use Rattle.fronts.specs.Front.{front_tail, front_bytes}
use Rattle.writing.specs.declared.spans.Spans.{Spans}
use Rattle.writing.specs.Spans.{spans_of, spanned_size, inside, list_bytes}
use Rattle.writing.specs.Fits.{FitsIn}
use Rattle.writing.specs.Writing.{first_refusal, writing, again, copied}
use Rattle.writing.proofs.Lengths.{cut_short, inside-length, all_inside}
use Rattle.writing.proofs.Fitting.{span_bytes}
use Rattle.writing.proofs.WholeLists.{setting_fits}

-- Bytes whose limits are all 256 are their own.
full : List ℕ → Bool
full ls = all_are (λ l. eqb l 256) ls

zip_full : (p ls : List ℕ) → all_bytes p ≡ true → length p ≤ length ls → full ls ≡ true → zip_with ◌%◌ p ls ≡ p
unfolding all_bytes all_are zip_with full
zip_full [] ls b h e = refl
zip_full (x ∷ p) [] b h e = absurd (omega arith)
zip_full (x ∷ p) (l ∷ ls) b h e =
    let t = halves (eqb l 256) (full ls) e in
    let u = halves (ltb x 256) (all_bytes p) b in
    ap₂ ◌∷◌ (ap (λ k. x % k) (eqb-true l 256 t.0) ∙ mod-eq_of_lt (ltb-true x 256 u.0)) (zip_full p ls u.1 (omega arith) t.1)

module _ (shape : Shape) (whole : (low high : ℕ) → full (shape.limits low high) ≡ true) where
  each_own : (ps : List (List ℕ)) → all_are all_bytes ps ≡ true → all_are (λ p. leb (length p) (parameters.parameter_size shape p)) ps ≡ true → map (cleaned shape) ps ≡ ps
  unfolding cleaned parameters.parameter_size limits_of full all_are
  each_own [] b e = refl
  each_own (p ∷ ps) b e =
      let c = all_cons all_bytes p ps b in
      let s = all_cons (λ p. leb (length p) (parameters.parameter_size shape p)) p ps e in
      let h = leb-true (length p) (parameters.parameter_size shape p) s.0 in
      ap₂ ◌∷◌ (zip_full p (256 ∷ 256 ∷ limits_of shape p) c.0 (omega arith) (whole _ _)) (each_own ps c.1 s.1)

  own_bytes_lem : (xs : List ℕ) → all_bytes xs ≡ true → xs ≡ joined (map (cleaned shape) (cut shape zero xs))
  unfolding all_bytes
  own_bytes_lem xs b =
      let cut_bytes : all_are all_bytes (cut shape zero xs) ≡ true = rw (← joined-cut shape zero xs, all_joined) at b in
      sym (ap joined (each_own (cut shape zero xs) cut_bytes (cut_short shape zero xs)) ∙ joined-cut shape zero xs)

full-replicate : (n : ℕ) → full (replicate n 256) ≡ true
unfolding full all_are
full-replicate zero = refl
full-replicate (suc n) = full-replicate n

full_question : (n : ℕ) → full (question_limits n) ≡ true
unfolding question_limits full all_are
full_question n = pick_case (λ ls. full ls ≡ true) _ (λ y. refl) (λ n. refl)

-- A message that fits: its type, its list and its bytes, by its spans.
pub kind_held : (s : List ℕ) (m : Message) → (spans_of m).kind ≡ kind_of (held_in s m)
unfolding spans_of kind_of held_in start_read_in
kind_held s (Initiate f) = refl
kind_held s (StartRead f) = refl
kind_held s (ReadData f) = refl
kind_held s (OutOfBand discard character) = refl
kind_held s (Unread condition) = refl
kind_held s ClearInput = refl
kind_held s (Write f) = refl
kind_held s (WriteCompletion lost horizontal vertical) = refl
kind_held s (DiscardState kept) = refl
kind_held s (ReadCharacteristics p) = refl
kind_held s (Characteristics p) = refl
kind_held s CheckInput = refl
kind_held s (InputCount count) = refl
kind_held s (InputState nonzero) = refl
kind_held s (Other kind body) = refl

never_other : (kind : ℕ) (body : List ℕ) → fits_held (other kind body) ≡ true → ⊥
unfolding fits_held
never_other kind body e = false≢true e

listed_bytes : (kind : ℕ) (numbers : List ℕ) {xs ys : List ℕ} → xs ≡ ys →
    (kind ∷ (write_groups (form_of kind).head numbers ++ [])) ++ xs ≡ kind ∷ (write_groups (form_of kind).head numbers ++ ys)
listed_bytes kind numbers e = ap₂ (λ w y. kind ∷ (w ++ y)) (append-nil (write_groups (form_of kind).head numbers)) e

module _ (s : List ℕ) (bytes : all_bytes s ≡ true) where
  pub list_whole : (m : Message) → fits_held (held_in s m) ≡ true → (spans_of m).kind ≡ 11 → sound_from 11 0 (span_of s (spans_of m).list) ≡ true
  unfolding spans_of fits_held held_in
  list_whole (Initiate f) e k = absurd (omega arith)
  list_whole (StartRead f) e k = absurd (omega arith)
  list_whole (ReadData f) e k = absurd (omega arith)
  list_whole (OutOfBand discard character) e k = absurd (omega arith)
  list_whole (Unread condition) e k = absurd (omega arith)
  list_whole ClearInput e k = absurd (omega arith)
  list_whole (Write f) e k = absurd (omega arith)
  list_whole (WriteCompletion lost horizontal vertical) e k = absurd (omega arith)
  list_whole (DiscardState kept) e k = absurd (omega arith)
  list_whole (ReadCharacteristics p) e k = absurd (omega arith)
  list_whole (Characteristics p) e k = setting_fits s p bytes ∙ e
  list_whole CheckInput e k = absurd (omega arith)
  list_whole (InputCount count) e k = absurd (omega arith)
  list_whole (InputState nonzero) e k = absurd (omega arith)
  list_whole (Other kind body) e k = absurd (never_other kind (span_of s body) e)

  set_count : (f : StartReadFields) → fits_held (message (start_read_in s f)) ≡ true → length (span_of s f.set) % 256 ≡ length (span_of s f.set)
  unfolding fits_held fits_as fits_tail form_of forms.forms start_read_in
  set_count f e =
      let set = span_of s f.set in
      let x = start_read_in s f in
      let t = thirds (fits (widths_of (form_of 2).head) x.numbers) (fits_tail set_and_text x) (defined_fields x) e in
      let q = quarters (leb (length set) 32) (all_bytes set) (is_empty x.parameters) (all_bytes (span_of s f.text)) t.1 in
      let h = leb-true (length set) 32 q.0 in
      mod-eq_of_lt (omega arith)

  pub whole_bytes : (m : Message) → fits_held (held_in s m) ≡ true →
      front_bytes (held_in s m) ++ list_bytes (spans_of m).kind (span_of s (spans_of m).list) ≡ held_bytes (held_in s m)
  unfolding front_bytes held_bytes bytes_as front_tail tail_bytes list_bytes spans_of held_in start_read_in form_of forms.forms pick span_of parameters_of
  whole_bytes (Initiate f) e =
      listed_bytes 1 (f.version ∷ f.eco ∷ f.modification ∷ span_of s f.revision)
      (own_bytes_lem initiation (λ low high. full-replicate high) (span_of s f.parameters) (span_bytes s f.parameters bytes))
  whole_bytes (StartRead f) e =
      append-nil _ ∙
      ap (λ n. 2 ∷ (write_groups (form_of 2).head (start_read_in s f).numbers ++ n ∷ (span_of s f.set ++ span_of s f.text))) (set_count f e)
  whole_bytes (ReadData f) e = append-nil _
  whole_bytes (OutOfBand discard character) e = append-nil _
  whole_bytes (Unread condition) e = append-nil _
  whole_bytes ClearInput e = append-nil _
  whole_bytes (Write f) e = append-nil _
  whole_bytes (WriteCompletion lost horizontal vertical) e = append-nil _
  whole_bytes (DiscardState kept) e = append-nil _
  whole_bytes (ReadCharacteristics p) e =
      listed_bytes 10 [] (own_bytes_lem question (λ low high. full_question (low + 256 * high)) (span_of s p) (span_bytes s p bytes))
  whole_bytes (Characteristics p) e =
      listed_bytes 11 [] (ap joined (sym (list_from 11 (is_setting (λ q. omega arith) (λ q. omega arith)) s p)))
  whole_bytes CheckInput e = append-nil _
  whole_bytes (InputCount count) e = append-nil _
  whole_bytes (InputState nonzero) e = append-nil _
  whole_bytes (Other kind body) e = absurd (never_other kind (span_of s body) e)

-- The rows, in their order.
abbrev rows : ℕ → ℕ → ℕ → Bool → Outcome (List ℕ) → Outcome (List ℕ)
rows area size kind passes x = first_row_answer refused x (write_refusals area size kind passes)

-- the number of the first row that applies is the number of the refusal
row_step : (t : Bool) {n : ℕ} (k : ℕ) {rest : ℕ} {y : Outcome (List ℕ)} → (n ≡ rest → y ≡ refused n) → n ≡ pick t k rest →
    pick t (refused k) y ≡ refused n
unfolding pick
row_step true k behind e = ap refused (sym e)
row_step false k behind e = behind e

row_of : (table : List Row) {n : ℕ} → n ≡ first_row_answer (λ k. k) accepted table → (n ≡ accepted → ⊥) → (x : Outcome (List ℕ)) →
    first_row_answer refused x table ≡ refused n
unfolding first_row_answer
row_of [] e z x = absurd (z e)
row_of (r ∷ table) e z x = row_step r.applies r.number (λ k. row_of table k z x) e

all_passed : (a l k f : Bool) {n : ℕ} → n ≡ pick a small_area (pick l wrong_length (pick (not k) wrong_type (pick (not f) unsound accepted))) →
    n ≡ accepted → (a ≡ false) × (l ≡ false) × (k ≡ true) × (f ≡ true)
unfolding pick
all_passed true l k f e z = absurd (omega arith)
all_passed false true k f e z = absurd (omega arith)
all_passed false false false f e z = absurd (omega arith)
all_passed false false true false e z = absurd (omega arith)
all_passed false false true true e z = (refl, refl, refl, refl)

module _ (area size kind : ℕ) (fits : Bool) {n : ℕ} (e : n ≡ first_refusal area size kind fits) where
  rows-refused : (n ≡ 0 → ⊥) → (x : Outcome (List ℕ)) → rows area size kind fits x ≡ refused n
  unfolding first_refusal
  rows-refused z x = row_of (write_refusals area size kind fits) e z x

  module _ (z : n ≡ 0) where
    tests : (ltb area message_area ≡ false) × (ltb message_size size ≡ false) × (defined_kind kind ≡ true) × (fits ≡ true)
    unfolding first_refusal write_refusals first_row_answer
    tests = all_passed (ltb area message_area) (ltb message_size size) (defined_kind kind) fits e z

    rows_passed : (x : Outcome (List ℕ)) → rows area size kind fits x ≡ x
    unfolding write_refusals first_row_answer
    rows_passed x =
        pick-false _ _ tests.0 ∙ pick-false _ _ tests.1 ∙ pick-false _ _ (ap not tests.2) ∙ pick-false _ _ (ap not tests.3)

    rows_room : size ≤ area
    rows_room = omega (arith, longest_room, ltb-false area message_area tests.0, ltb-false message_size size tests.1)

-- Where every span lies in the slice, the rows are the definition's own.
same_rows : {A : Type 0} (a l k : Bool) (one two three five x : A) →
    pick a one (pick l two (pick k three (pick false five (pick a one (pick l two (pick k three x)))))) ≡ pick a one (pick l two (pick k three x))
unfolding pick
same_rows true l k one two three five x = refl
same_rows false true k one two three five x = refl
same_rows false false true one two three five x = refl
same_rows false false false one two three five x = refl

writing-inside : (area : ℕ) (s : List ℕ) (m : Message) → inside (length s) (spans_of m) ≡ true → writing area s m ≡ written area (held_in s m)
unfolding writing written write_refusals first_row_answer
writing-inside area s m e =
    rw (e, inside-length s m e, kind_held s m)
    (same_rows (ltb area message_area) (ltb message_size (length (held_bytes (held_in s m)))) (not (defined_kind (kind_of (held_in s m)))) _ _ _ _ _)

-- The same rows, by the test of its spans and the test of its fields together.
written-rows : (area : ℕ) (h : Held) {size kind : ℕ} → length (held_bytes h) ≡ size → kind_of h ≡ kind →
    written area h ≡ rows area size kind (fits_held h) (sound (held_bytes h))
unfolding written
written-rows area h long is = λ i. rows area (long i) (is i) (fits_held h) (sound (held_bytes h))

outside_rows : (area : ℕ) (s : List ℕ) (m : Message) (x : Outcome (List ℕ)) → inside (length s) (spans_of m) ≡ false →
    writing area s m ≡ rows area (spanned_size (spans_of m)) (spans_of m).kind false x
unfolding writing write_refusals first_row_answer pick
outside_rows area s m x e = rw e refl

-- What the code finds of a message.
module _ (area : ℕ) (s : List ℕ) (m : Message) {p : Spans} (is : p ≡ spans_of m) {size : ℕ} (sized : size ≡ spanned_size p)
    {lie fits : Bool} (lies : lie ≡ inside (length s) p) (fit : FitsIn s m fits)
    {n : ℕ} (e : n ≡ first_refusal area size p.kind (lie && fits)) where
  abbrev held : Held
  held = held_in s m

  abbrev lying : Bool
  lying = inside (length s) (spans_of m)

  own : n ≡ first_refusal area (spanned_size (spans_of m)) (spans_of m).kind (lying && fits_held held)
  own =
      e ∙ (λ i. first_refusal area ((sized ∙ ap spanned_size is) i) (is i).kind ((lies ∙ ap (inside (length s)) is) i && fits)) ∙
      ap (first_refusal area (spanned_size (spans_of m)) (spans_of m).kind) (by_places lying refl)
    where
      by_places : (b : Bool) → lying ≡ b → b && fits ≡ b && fits_held held
      by_places true l = fit.same l
      by_places false l = refl

  as_rows : writing area s m ≡ rows area (spanned_size (spans_of m)) (spans_of m).kind (lying && fits_held held) (sound (held_bytes held))
  as_rows = by_places lying refl
    where
      by_places : (b : Bool) → lying ≡ b →
          writing area s m ≡ rows area (spanned_size (spans_of m)) (spans_of m).kind (b && fits_held held) (sound (held_bytes held))
      by_places true l =
          writing-inside area s m l ∙ written-rows area held (sym (inside-length s m l)) (sym (kind_held s m))
      by_places false l = outside_rows area s m (sound (held_bytes held)) l

  pub encode_refused : (n ≡ 0 → ⊥) → writing area s m ≡ refused n
  encode_refused z =
      as_rows ∙ rows-refused area (spanned_size (spans_of m)) (spans_of m).kind (lying && fits_held held) own z (sound (held_bytes held))

  module _ (z : n ≡ 0) where
    passed : (lying ≡ true) × (fits_held held ≡ true)
    passed = halves lying (fits_held held) (tests area (spanned_size (spans_of m)) (spans_of m).kind (lying && fits_held held) own z).3

    pub encode_sound : writing area s m ≡ sound (held_bytes held)
    encode_sound =
        as_rows ∙ rows_passed area (spanned_size (spans_of m)) (spans_of m).kind (lying && fits_held held) own z (sound (held_bytes held))

    pub encode_fits : fits_held held ≡ true
    encode_fits = passed.1

    pub encode_room : length (held_bytes held) ≤ area
    encode_room =
        let long = inside-length s m passed.0 in
        let room = rows_room area (spanned_size (spans_of m)) (spans_of m).kind (lying && fits_held held) own z in
        omega arith

-- Copying: what was found, written again.
module _ (area : ℕ) (s : List ℕ) where
  copy_found : {h : Held} → sound h ≡ as_held (read s) → copied area s ≡ written area h
  unfolding copied again as_held
  copy_found {h} e = by_outcome (read s) e
    where
      by_outcome : (o : Outcome (forms.Message ℕ)) → sound h ≡ as_held o → again area o ≡ written area h
      by_outcome (refused n) e = absurd (refused-sound (sym e))
      by_outcome (sound x) e = ap (written area) (sym (sound_same e))

  pub copy_refused : {n : ℕ} → refused n ≡ as_held (read s) → copied area s ≡ refused n
  unfolding copied again as_held
  copy_refused {n} e = by_outcome (read s) e
    where
      by_outcome : (o : Outcome (forms.Message ℕ)) → refused n ≡ as_held o → again area o ≡ refused n
      by_outcome (refused k) e = let same : n ≡ k = cc in ap refused (sym same)
      by_outcome (sound x) e = absurd (refused-sound e)

  -- what was read is written, and reads back the same
  pub copy_back : (x : forms.Message ℕ) → all_bytes s ≡ true → read s ≡ sound x → message_area ≤ area →
      (b : List ℕ) × (copied area s ≡ sound b) × (read b ≡ sound x)
  unfolding copied again
  copy_back x bytes e room =
      let r = round_trip s x area bytes e room in
      (r.0, ap (again area) e ∙ r.1, r.2)

-- What reading promises and what writing promises, together: the answer is that of copying, and what was written reads back as
-- the same fields.
module _ {s : List ℕ} {f : Result Message Refusal} (found : Finds s (as_held (read s)) f) {m : Message} (e : f ≡ Ok m) where
  writes_found : (area : ℕ) → copied area s ≡ writing area s m
  unfolding found_in found_inside
  writes_found area =
      copy_found area s (ap (found_in s) (sym e) ∙ found.fields) ∙
      sym (writing-inside area s m (all_inside (length s) m (ap (found_inside (length s)) (sym e) ∙ found.inside)))

  module _ {before after : List ℕ} {r : Result ℕ Refusal} (w : InFront (writing (length before) s m) before r after) where
    pub answers_again : InFront (copied (length before) s) before r after
    answers_again = answers_as_lem (writes_found (length before)) w

    abbrev wrote : List ℕ
    wrote = take (length_said r) after

    abbrev Back : Type 0
    Back = (answered r ≡ accepted) × ((g : Result Message Refusal) → Finds wrote (as_held (read wrote)) g → found_in wrote g ≡ found_in s f)

    pub reads_back : all_bytes s ≡ true → message_area ≤ length before → Back
    unfolding found_in as_held
    reads_back bytes room = by_outcome (read s) refl
      where
        by_outcome : (o : Outcome (forms.Message ℕ)) → read s ≡ o → Back
        by_outcome (refused n) o = absurd (refused-sound (sym (ap as_held o) ∙ sym found.fields ∙ ap (found_in s) e))
        by_outcome (sound x) o =
            let b = copy_back (length before) s x bytes o room in
            let answer : InFront (sound b.0) before r after = answers_as_lem (sym b.1) answers_again in
            let there = front_bytes_lem answer in (
              answer_accepted answer,
              λ g h. h.fields ∙ ap (λ bytes. as_held (read bytes)) there ∙ ap as_held (b.2 ∙ sym o) ∙ sym found.fields,
            )
