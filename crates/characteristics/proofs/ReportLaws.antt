-- The answer to Read Characteristics: its bytes, how many they are, and whether they fit.
use mathlib.Core.Path.{◌≡◌, refl, sym, ap, ◌∙◌}
use Prim.Native.Nat.{ℕ, ◌+◌, ◌<◌, ◌≤◌, min}
use native.Mathlib.Omega.{arith}
use mathlib.Core.Bool.{Bool, true, false, ◌&&◌}
use mathlib.Core.List.{List, [], ◌∷◌, ◌++◌, map}
use lib.Dec.{leb}
use lib.ListN.{length, get_or, length-append}
use borrow.Author.Tests.{eq-eqb, ne_eqb, leb-true, leb-false, le-leb, lt-leb}
use Rattle.rules.specs.Choice.{bit, joined}
use Rattle.rules.specs.Numbers.{message_area}
use Rattle.rules.specs.Messages.Layout.{byte_at, fields_in, number_of, write_groups, bytes_of, framed}
use Rattle.rules.specs.Messages.Parameters.{selector, character_attributes}
use Rattle.rules.specs.Messages.Forms.{forms, form_of}
use Rattle.rules.specs.Messages.Codec.{bytes_as, tail_bytes}
use Rattle.rules.specs.State.{Host, State, with_host}
use Rattle.rules.specs.Characteristics.{switch_of, reported, report}
use Rattle.rules.specs.Calls.{sent_bytes, carries_questions}
use Rattle.rules.proofs.Choice.{halves, pick_true, pick-false}
use Rattle.rules.proofs.Bounds.Sent.{framed-length}
use Rattle.parameters.specs.declared.Parameter.{Parameter}
use Rattle.parameters.specs.Lists.{ParameterIs, shape_of, parameter_at, parameters_from, used_at}
use Rattle.parameters.proofs.Shapes.{parameters_end}
use Rattle.writing.proofs.Settings.{selector_bytes}
use Rattle.characteristics.specs.Lists.{questions_in, answers_from, answer_to}
use Rattle.characteristics.proofs.AllCarried.{all_carried}

-- One question.
module _ (h : Host) (p : List ℕ) where
  pub reports_attribute : selector p ≡ character_attributes →
      reported h p ≡ byte_at p 0 ∷ byte_at p 1 ∷ byte_at p 2 ∷ 127 ∷ get_or h.attributes (byte_at p 2) 0 ∷ []
  unfolding reported
  reports_attribute e = pick_true _ _ (eq-eqb (selector p) character_attributes e)

  pub reports_switch : (selector p ≡ character_attributes → ⊥) →
      reported h p ≡ byte_at p 0 ∷ byte_at p 1 ∷ bit (switch_of (selector p) h.switches) ∷ []
  unfolding reported
  reports_switch e = pick-false _ _ (ne_eqb (selector p) character_attributes e)

module _ {at : ℕ} {s : List ℕ} {p : Parameter} (is : ParameterIs 10 at s p) (h : Host) where
  abbrev here : List ℕ
  here = used_at 10 at s

  own_selector : bytes_of 2 p.selector ≡ byte_at here 0 ∷ byte_at here 1 ∷ []
  own_selector = ap (bytes_of 2) is.selected ∙ selector_bytes (shape_of 10) (parameter_at 10 at s)

  pub attribute_answer : p.selector ≡ character_attributes → {a : ℕ} → a ≡ get_or h.attributes p.first 0 →
      bytes_of 2 p.selector ++ (p.first ∷ 127 ∷ a ∷ []) ≡ reported h here
  attribute_answer n {a} e =
      let a' = e ∙ ap (λ k. get_or h.attributes k 0) is.one in
      (λ i. own_selector i ++ (is.one i ∷ 127 ∷ a' i ∷ [])) ∙ sym (reports_attribute h here (sym is.selected ∙ n))

  pub switch_answer : (p.selector ≡ character_attributes → ⊥) → {v : ℕ} → v ≡ bit (switch_of p.selector h.switches) →
      bytes_of 2 p.selector ++ (v ∷ []) ≡ reported h here
  switch_answer n e =
      let v' = e ∙ ap (λ k. bit (switch_of k h.switches)) is.selected in
      (λ i. own_selector i ++ (v' i ∷ [])) ∙ sym (reports_switch h here (λ k. n (is.selected ∙ k)))

  -- the first of the questions that are left
  pub first_answer : at < length s → answers_from at s h ≡ reported h here ++ answers_from p.next s h
  unfolding answers_from joined
  first_answer l = ap (λ ps. joined (map (reported h) ps)) (is.list l)

  pub first_size : at < length s → {n : ℕ} (size : ℕ) {total : ℕ} → n ≡ length (reported h here) → size + length (answers_from at s h) ≡ total →
      size + n + length (answers_from p.next s h) ≡ total
  first_size l size e all =
      let sum = ap (λ bs. length bs) (first_answer l) ∙ length-append (reported h here) (answers_from p.next s h) in
      omega arith

-- All of them.
module _ (s : List ℕ) (h : Host) where
  pub no_answers : (at : ℕ) → length s ≤ at → answers_from at s h ≡ []
  unfolding answers_from joined
  no_answers at l = ap (λ ps. joined (map (reported h) ps)) (parameters_end 10 at s l)

  sent : sent_bytes (report h (questions_in s)) ≡ 11 ∷ 0 ∷ answers_from 0 s h
  unfolding sent_bytes bytes_as form_of forms write_groups number_of fields_in tail_bytes report answers_from
  sent = refl

  pub answer_length : 4 + length (answers_from 0 s h) ≡ length (answer_to s h)
  unfolding answer_to
  answer_length =
      let n = framed-length (sent_bytes (report h (questions_in s))) in
      let l = ap (λ bs. length bs) sent in
      omega arith

  -- the length, the type and the flags; the answers
  pub answer_bytes : (n : ℕ) → n ≡ 2 + length (answers_from 0 s h) →
      (bytes_of 2 n ++ (11 ∷ 0 ∷ [])) ++ answers_from 0 s h ≡ answer_to s h
  unfolding answer_to framed fields_in
  answer_bytes n e =
      let long : n ≡ length (11 ∷ 0 ∷ answers_from 0 s h) = omega arith in
      ap (λ k. (bytes_of 2 k ++ (11 ∷ 0 ∷ [])) ++ answers_from 0 s h) long ∙ ap framed (sym sent)

-- the size, as far as the area goes
fits_area : {r most : ℕ} (n : ℕ) → message_area ≡ most → r ≡ min (message_area + 1) n → leb r most ≡ leb n message_area
fits_area {r} {most} n area e = by_test (leb n message_area) refl
  where
    by_test : (t : Bool) → leb n message_area ≡ t → leb r most ≡ t
    by_test true k = le-leb r most (omega (arith, leb-true n message_area k))
    by_test false k = lt-leb r most (omega (arith, leb-false n message_area k))

-- Carried: a question that is not, and otherwise the size; whatever else the line holds.
module _ (s : List ℕ) (h : Host) (line : State ℕ) where
  abbrev carried : Bool
  carried = carries_questions (with_host h line) (questions_in s)

  carried_by : carried ≡ all_carried (parameters_from 10 0 s) && leb (length (answer_to s h)) message_area
  unfolding carries_questions answer_to
  carried_by = refl

  pub not_carried_lem : {t : Bool} → t ≡ all_carried (parameters_from 10 0 s) → t ≡ false → false ≡ carried
  not_carried_lem e f = sym (carried_by ∙ rw (sym e ∙ f))

  pub carried_size : {t : Bool} → t ≡ all_carried (parameters_from 10 0 s) → t ≡ true →
      {r most : ℕ} → message_area ≡ most → r ≡ min (message_area + 1) (length (answer_to s h)) → leb r most ≡ carried
  carried_size e f area size = fits_area (length (answer_to s h)) area size ∙ sym (carried_by ∙ rw (sym e ∙ f))

  -- an answer that is carried has its own size
  pub own_size : carried ≡ true → {r : ℕ} → r ≡ min (message_area + 1) (length (answer_to s h)) →
      (r ≡ 4 + length (answers_from 0 s h)) × (r ≤ message_area)
  own_size e size =
      let t = halves (all_carried (parameters_from 10 0 s)) (leb (length (answer_to s h)) message_area) (sym carried_by ∙ e) in
      let room = leb-true (length (answer_to s h)) message_area t.1 in
      let n = answer_length s h in
      (omega arith, omega arith)
