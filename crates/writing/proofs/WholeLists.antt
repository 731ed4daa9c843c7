-- Parameter lists: a list fits when it is whole, and is its own bytes where every bit is used.
use mathlib.Core.Path.{◌≡◌, refl, sym, ap, ap₂, ◌∙◌}
use Prim.Native.Nat.{ℕ, zero, suc, ◌+◌, ◌*◌, ◌<◌}
use native.Mathlib.Omega.{arith}
use mathlib.Core.Bool.{Bool, true, false, ◌&&◌, and-true, and-false, and_assoc}
use mathlib.Core.List.{List, [], ◌∷◌, map}
use lib.Dec.{leb, ltb, eqb}
use lib.ListN.{length, replicate}
use borrow.Author.Tests.{leb-true, lt-ltb, eqb-true, eqb-false, eq-eqb, ne_eqb}
use Rattle.rules.specs.Choice.{pick, within, is_empty, all_are}
use Rattle.rules.specs.Messages.Layout.{widths_of, fits}
use Rattle.rules.specs.Messages.Parameters.{Shape, initiation, question, setting, selector, input_count_state, defined_selector, defined_value}
use Rattle.rules.specs.Messages.Parameters.{parameter_size, sound_parameter, fits_parameter, cleaned, cut}
use Rattle.rules.specs.Messages.Forms.{forms, form_of}
use Rattle.rules.specs.Messages.Codec.{all_bytes, defined_fields, fits_tail, fits_as, fits_held}
use Rattle.rules.proofs.Choice.{both, halves, pick_same, all_cons, all_joined}
use Rattle.rules.proofs.Parameters.{Cleanable, initiation_cleanable, question_cleanable, setting_cleanable}
use Rattle.rules.proofs.Parameters.{joined-cut, limits_cleaned, selector-cleaned, count_cleaned, cut-cleaned_fits, cut-cleaned_sound}
use Rattle.fields.specs.declared.Span.{Span}
use Rattle.fields.specs.Spans.{span_of}
use Rattle.message.specs.Found.{parameters_of, list_message}
use Rattle.parameters.specs.Lists.{shape_of, sound_from}
use Rattle.writing.proofs.Lengths.{cut_short, cleaned-length}
use Rattle.writing.proofs.Fitting.{span_bytes}

-- What is defined stays so when unused bits are cleared, and the other way round.
abbrev Keeps : Shape → Type 0
Keeps shape = (p : List ℕ) → all_bytes p ≡ true → shape.defined (cleaned shape p) ≡ shape.defined p

initiation_keeps : Keeps initiation
initiation_keeps p bytes = refl

question_keeps : Keeps question
question_keeps p bytes = ap defined_selector (selector-cleaned question p bytes)

setting_keeps : Keeps setting
unfolding defined_value
setting_keeps p bytes =
    rw (selector-cleaned setting p bytes)
    (pick_same (eqb (selector p) input_count_state) (defined_selector (selector p)) λ t.
    let is = eqb-true (selector p) input_count_state t in
    ap₂ (λ low high. within 1 3 (low + 256 * high)) (count_cleaned p 2 bytes is refl) (count_cleaned p 3 bytes is refl))

module _ (shape : Shape) (clean : Cleanable shape) (keeps : Keeps shape) where
  sound_same : (p : List ℕ) → all_bytes p ≡ true → leb (length p) (parameter_size shape p) ≡ true →
      sound_parameter shape (cleaned shape p) ≡ sound_parameter shape p
  unfolding sound_parameter parameter_size
  sound_same p bytes short =
      let long = cleaned-length shape p (leb-true (length p) (parameter_size shape p) short) in
      let limits = ap (λ ls. 2 + length ls) (limits_cleaned shape p bytes) in
      ap₂ ◌&&◌ (ap₂ eqb long limits) (keeps p bytes)

  all_same : (ps : List (List ℕ)) → all_are all_bytes ps ≡ true → all_are (λ p. leb (length p) (parameter_size shape p)) ps ≡ true →
      all_are (sound_parameter shape) (map (cleaned shape) ps) ≡ all_are (sound_parameter shape) ps
  unfolding all_are
  all_same [] bytes short = refl
  all_same (p ∷ ps) bytes short =
      let b = all_cons all_bytes p ps bytes in
      let s = all_cons (λ p. leb (length p) (parameter_size shape p)) p ps short in
      ap₂ ◌&&◌ (sound_same p b.0 s.0) (all_same ps b.1 s.1)

  pub list_fits : (xs : List ℕ) → all_bytes xs ≡ true →
      all_are (sound_parameter shape) (cut shape zero xs) ≡
      all_are (fits_parameter shape) (map (cleaned shape) (cut shape zero xs)) && all_are (sound_parameter shape) (map (cleaned shape) (cut shape zero xs))
  unfolding all_bytes
  list_fits xs bytes = by_sound (all_are (sound_parameter shape) ps) refl
    where
      ps : List (List ℕ)
      ps = cut shape zero xs

      cut_bytes : all_are all_bytes ps ≡ true
      cut_bytes = rw (← joined-cut shape zero xs, all_joined) at bytes

      by_sound : (t : Bool) → all_are (sound_parameter shape) ps ≡ t →
          t ≡ all_are (fits_parameter shape) (map (cleaned shape) ps) && all_are (sound_parameter shape) (map (cleaned shape) ps)
      by_sound true e = sym (both (cut-cleaned_fits shape clean xs bytes e) (cut-cleaned_sound shape clean xs bytes e))
      by_sound false e =
          sym (rw (all_same ps cut_bytes (cut_short shape zero xs) ∙ e) (and-false (all_are (fits_parameter shape) (map (cleaned shape) ps))))

-- so many bytes
suc-eqb : (a b : ℕ) → eqb (suc a) (suc b) ≡ eqb a b
suc-eqb a b = by_test (eqb a b) refl
  where
    by_test : (t : Bool) → eqb a b ≡ t → eqb (suc a) (suc b) ≡ t
    by_test true e = eq-eqb (suc a) (suc b) (ap suc (eqb-true a b e))
    by_test false e = let other = eqb-false a b e in ne_eqb (suc a) (suc b) (λ q. other (omega arith))

run_fits : (n : ℕ) (l : List ℕ) → all_bytes l ≡ true → eqb (length l) n ≡ fits (replicate n 8) l
unfolding fits all_bytes all_are
run_fits zero [] e = refl
run_fits zero (b ∷ l) e = ne_eqb (length (b ∷ l)) 0 (λ q. omega arith)
run_fits (suc n) [] e = ne_eqb 0 (suc n) (λ q. omega arith)
run_fits (suc n) (b ∷ l) e =
    let h = halves (ltb b 256) (all_bytes l) e in
    suc-eqb (length l) n ∙ rw h.0 (run_fits n l h.1)

-- The three messages with a list.
module _ (s : List ℕ) (p : Span) (bytes : all_bytes s ≡ true) where
  pub question_fits : sound_from 10 0 (span_of s p) ≡ fits_held (list_message 10 [] (parameters_of question s p))
  unfolding sound_from shape_of fits_held fits_as form_of forms widths_of fits fits_tail defined_fields pick is_empty parameters_of
  question_fits = simp (list_fits question question_cleanable question_keeps (span_of s p) (span_bytes s p bytes), and-true)

  pub setting_fits : sound_from 11 0 (span_of s p) ≡ fits_held (list_message 11 [] (parameters_of setting s p))
  unfolding sound_from shape_of fits_held fits_as form_of forms widths_of fits fits_tail defined_fields pick is_empty parameters_of
  setting_fits = simp (list_fits setting setting_cleanable setting_keeps (span_of s p) (span_bytes s p bytes), and-true)

  pub initiate_fits : {v e m n : ℕ} (revision : Span) → v < 256 → e < 256 → m < 256 → {t : Bool} → n ≡ length (span_of s revision) →
      t ≡ sound_from 1 0 (span_of s p) →
      eqb n 8 && t ≡ fits_held (list_message 1 (v ∷ e ∷ m ∷ span_of s revision) (parameters_of initiation s p))
  unfolding sound_from shape_of fits_held fits_as form_of forms widths_of fits fits_tail defined_fields pick is_empty parameters_of
  initiate_fits {v} {e} {m} revision v< e< m< size whole =
      let eight = ap (λ k. eqb k 8) size ∙ run_fits 8 (span_of s revision) (span_bytes s revision bytes) in
      let list = list_fits initiation initiation_cleanable initiation_keeps (span_of s p) (span_bytes s p bytes) in
      ap₂ ◌&&◌ eight (whole ∙ list) ∙
      simp (lt-ltb v 256 v<, lt-ltb e 256 e<, lt-ltb m 256 m<, and-true, and_assoc)
