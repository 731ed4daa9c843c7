-- The answer to Read Characteristics fits: each parameter asked for is one of the five, so its answer is a whole one.
use mathlib.Core.Path.{◌≡◌, refl, sym, ap, subst, ◌∙◌}
use Prim.Native.Nat.{ℕ, ◌+◌, ◌<◌}
use native.Mathlib.Nat.{le_refl}
use native.Mathlib.Omega.{arith}
use mathlib.Core.Bool.{Bool, true, false, ◌||◌}
use mathlib.Core.List.{List, [], ◌∷◌, map}
use lib.Dec.{leb, eqb}
use lib.ListN.{length, get_or}
use borrow.Author.Tests.{ltb-true, leb-true, eqb-true, eq-eqb}
use Rattle.rules.specs.Choice.{pick, within, bit, is_empty, all_are}
use Rattle.rules.specs.Numbers.{message_area}
use Rattle.rules.specs.Messages.Layout.{byte_at, fits, widths_of, framed}
use Rattle.rules.specs.Messages.Parameters.{selector, character_attributes, raise_input, normal_echo, escape_recognition, auto_prompt, input_count_state}
use Rattle.rules.specs.Messages.Parameters.{defined_selector, question_limits, value_limits, defined_value, question, setting}
use Rattle.rules.specs.Messages.Parameters.{under, limits_of, parameter_size, sound_parameter, fits_parameter}
use Rattle.rules.specs.Messages.Forms.{Message, forms, form_of, read_characteristics}
use Rattle.rules.specs.Messages.Codec.{defined_kind, defined_fields, fits_tail, fits_as}
use Rattle.rules.specs.State.{Host, State}
use Rattle.rules.specs.Characteristics.{is_carried, switch_of, reported, report}
use Rattle.rules.specs.Host.{reports}
use Rattle.rules.specs.Calls.{sent_bytes, carries_questions}
use Rattle.rules.specs.Bounds.{is_attribute, BoundedHost, BoundedRead}
use Rattle.rules.proofs.Choice.{both, halves, or_case, quarters, pick_true, pick-false, pick_case, all_at, all_both, all_map}
use Rattle.rules.proofs.Bounds.Limits.{under-true, under_at, under-length}
use Rattle.rules.proofs.Bounds.Turns.{Steady, Fine, sends_good}
use Rattle.rules.proofs.Bounds.Sent.{Fit, framed-length}
use Rattle.rules.proofs.Bounds.Messages.{bit_flag}
use Rattle.rules.proofs.Bounds.Received.{fit_parts}

-- The five selectors.
record Carried (n : ℕ) : Type 0 where
  limits : pick (eqb n character_attributes) (256 ∷ 256 ∷ 128 ∷ []) (2 ∷ []) ≡ value_limits n
  plain : eqb n input_count_state ≡ false
  defined : defined_selector n ≡ true

carried : (n : ℕ) → is_carried n ≡ true → Carried n
unfolding is_carried pick value_limits defined_selector within
carried n e =
    or_case (Carried n) (eqb n character_attributes || eqb n raise_input || eqb n normal_echo || eqb n escape_recognition) (eqb n auto_prompt)
    (or_case (Carried n) (eqb n character_attributes || eqb n raise_input || eqb n normal_echo) (eqb n escape_recognition)
    (or_case (Carried n) (eqb n character_attributes || eqb n raise_input) (eqb n normal_echo)
    (or_case (Carried n) (eqb n character_attributes) (eqb n raise_input)
    (is character_attributes (record { limits = refl; plain = refl; defined = refl }))
    (is raise_input (record { limits = refl; plain = refl; defined = refl })))
    (is normal_echo (record { limits = refl; plain = refl; defined = refl })))
    (is escape_recognition (record { limits = refl; plain = refl; defined = refl })))
    (is auto_prompt (record { limits = refl; plain = refl; defined = refl }))
    e
  where
    is : (k : ℕ) → Carried k → eqb n k ≡ true → Carried n
    is k h t = subst Carried (sym (eqb-true n k t)) h

question_limits_lem : (n : ℕ) → eqb n character_attributes ≡ true → question_limits n ≡ 256 ∷ []
unfolding question_limits
question_limits_lem n e = pick_true _ _ e

-- A parameter of Characteristics that is whole and fits.
abbrev Whole : List ℕ → Type 0
Whole q = (fits_parameter setting q ≡ true) × (sound_parameter setting q ≡ true)

whole : (q ls : List ℕ) → Carried (selector q) → value_limits (selector q) ≡ ls → under (256 ∷ 256 ∷ ls) q ≡ true → Whole q
unfolding fits_parameter sound_parameter limits_of parameter_size defined_value
whole q ls c e h =
    let n = under-length (256 ∷ 256 ∷ ls) q h in
    let l = ap (λ ks. length ks) e in (
      ap (λ ks. under (256 ∷ 256 ∷ ks) q) e ∙ h,
      both (eq-eqb (length q) (2 + length (value_limits (selector q))) (omega arith)) (pick-false _ _ c.plain ∙ c.defined),
    )

attribute_under : (h : Host) → BoundedHost h → (k : ℕ) → get_or h.attributes k 0 < 128
unfolding is_attribute
attribute_under h b k = ltb-true (get_or h.attributes k 0) 128 (all_at is_attribute h.attributes 0 b.attributes refl k)

module _ (h : Host) (b : BoundedHost h) where
  reported_whole : (p : List ℕ) → fits_parameter question p ≡ true → is_carried (selector p) ≡ true → Whole (reported h p)
  unfolding fits_parameter limits_of reported
  reported_whole p fit one =
      let c = carried (selector p) one in
      let low = under_at (256 ∷ 256 ∷ question_limits (selector p)) p 0 fit (omega arith) in
      let high = under_at (256 ∷ 256 ∷ question_limits (selector p)) p 1 fit (omega arith) in
      pick_case Whole (eqb (selector p) character_attributes)
      (λ y.
      let asked = subst (λ ls. under (256 ∷ 256 ∷ ls) p ≡ true) (question_limits_lem (selector p) y) fit in
      let character = under_at (256 ∷ 256 ∷ 256 ∷ []) p 2 asked (omega arith) in
      let a = attribute_under h b (byte_at p 2) in
      whole (byte_at p 0 ∷ byte_at p 1 ∷ byte_at p 2 ∷ 127 ∷ get_or h.attributes (byte_at p 2) 0 ∷ []) (256 ∷ 256 ∷ 128 ∷ []) c
      (sym c.limits ∙ pick_true _ _ y) (under-true _ _ (omega arith)))
      (λ n.
      let f = bit_flag (switch_of (selector p) h.switches) in
      whole (byte_at p 0 ∷ byte_at p 1 ∷ bit (switch_of (selector p) h.switches) ∷ []) (2 ∷ []) c
      (sym c.limits ∙ pick-false _ _ n) (under-true _ _ (omega arith)))

  reported_all : (q : List ℕ → Bool) → ((p : List ℕ) → fits_parameter question p ≡ true → is_carried (selector p) ≡ true → q (reported h p) ≡ true) →
      (ps : List (List ℕ)) → all_are (fits_parameter question) ps ≡ true → all_are (λ p. is_carried (selector p)) ps ≡ true →
      all_are q (map (reported h) ps) ≡ true
  reported_all q f ps fit five =
      all_map _ q (reported h)
      (λ p t. let k = halves (fits_parameter question p) (is_carried (selector p)) t in f p k.0 k.1) ps
      (all_both (fits_parameter question) (λ p. is_carried (selector p)) ps fit five)

  report_fit : (m : Message ℕ) → m.kind ≡ read_characteristics → Fit m → all_are (λ p. is_carried (selector p)) m.parameters ≡ true → Fit (report h m)
  unfolding report form_of forms widths_of fits fits_as fits_tail is_empty defined_kind within defined_fields pick
  report_fit m e known five =
      let ps = m.parameters in
      let parts = fit_parts m read_characteristics e known in
      let fit = (quarters (is_empty m.set) (all_are (fits_parameter question) ps) (all_are (sound_parameter question) ps) (is_empty m.text) parts.1).1 in
      record {
        kind = refl;
        fits = both (both refl (both
            (both (both refl (reported_all (fits_parameter setting) (λ p f c. (reported_whole p f c).0) ps fit five))
            (reported_all (sound_parameter setting) (λ p f c. (reported_whole p f c).1) ps fit five)) refl)) refl;
      }

pub reports_fine : {s : State ℕ} (m : Message ℕ) → m.kind ≡ read_characteristics → Fit m → carries_questions s m ≡ true → Steady BoundedRead s →
    Fine (reports m s)
unfolding reports carries_questions
reports_fine {s = s} m e known carries h =
    let answer = report s.host m in
    let k = halves (all_are (λ p. is_carried (selector p)) m.parameters) (leb (length (framed (sent_bytes answer))) message_area) carries in
    let room = leb-true (length (framed (sent_bytes answer))) message_area k.1 in
    let n = framed-length (sent_bytes answer) in
    sends_good answer (record { fit = report_fit s.host h.host m e known k.0; size = le_refl (length (sent_bytes answer)) }) (omega arith) h
