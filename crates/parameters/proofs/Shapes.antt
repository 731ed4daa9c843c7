-- The three kinds of parameter lists, by the type of their message.
use mathlib.Core.Path.{◌≡◌, refl, sym, ap, ap₂, ◌∙◌}
use Prim.Native.Nat.{ℕ, zero, suc, ◌+◌, ◌*◌, ◌/◌, ◌%◌, ◌^◌, ◌<◌, ◌≤◌}
use native.Mathlib.Omega.{arith}
use mathlib.Core.Bool.{Bool, true, false, ◌&&◌}
use mathlib.Core.List.{List, [], ◌∷◌, map, zip_with}
use lib.Dec.{ltb, leb, eqb}
use lib.Bits.{bit_and, and_mask}
use lib.ListN.{length, get_or, take, drop, replicate}
use borrow.Author.Tests.{eq-eqb, ne_eqb, eqb-true, leb-true, leb-false, lt-ltb, le-ltb}
use Rattle.std.proofs.lemmas.List.{length-map}
use Rattle.rules.specs.Choice.{within, all_are}
use Rattle.rules.specs.Messages.Layout.{byte_at, number_at}
use Rattle.rules.specs.Messages.Parameters.{Shape, cut, initiation, question, setting, selector, input_count_state, defined_selector, defined_value}
use Rattle.rules.specs.Messages.Codec.{all_bytes}
use Rattle.rules.specs.Messages.Parameters.{question_limits, value_limits, limits_of, parameter_size, sound_parameter, cleaned}
use Rattle.rules.proofs.Choice.{pick_true, pick-false, pick_case, pick_same, all_split}
use Rattle.rules.proofs.Parameters.{selector-cleaned, count_cleaned}
use Rattle.parameters.specs.declared.Parameter.{Parameter}
use Rattle.parameters.specs.Lists.{ParameterIs, shape_of, mask, known_bytes, parameter_at, sound_from, parameters_from, used_at, next_from}
use Rattle.fields.proofs.Numbers.{number_two}
use Rattle.fields.proofs.Pieces.{none_behind}
use Rattle.parameters.proofs.Walk.{limits_here, sound_cut, sound_whole, used_here, selected_here, cut-here, cut_end}

-- which kind
module _ {kind : ℕ} where
  pub is_initiation : kind ≡ 1 → shape_of kind ≡ initiation
  unfolding shape_of
  is_initiation e = pick_true _ _ (eq-eqb kind 1 e)

  pub is_question : (kind ≡ 1 → ⊥) → kind ≡ 10 → shape_of kind ≡ question
  unfolding shape_of
  is_question n e = pick-false _ _ (ne_eqb kind 1 n) ∙ pick_true _ _ (eq-eqb kind 10 e)

  pub is_setting : (kind ≡ 1 → ⊥) → (kind ≡ 10 → ⊥) → shape_of kind ≡ setting
  unfolding shape_of
  is_setting n m = pick-false _ _ (ne_eqb kind 1 n) ∙ pick-false _ _ (ne_eqb kind 10 m)

-- what holds of the three holds of every kind
pub each_shape : (P : Shape → Type 0) (kind : ℕ) → P initiation → P question → P setting → P (shape_of kind)
unfolding shape_of
each_shape P kind p q r = pick_case P _ (λ e. p) (λ e. pick_case P _ (λ e. q) (λ e. r))

-- whether a list is sound goes by its shape alone
pub sound_alike : (k kind : ℕ) → shape_of k ≡ shape_of kind → (at : ℕ) (s : List ℕ) → sound_from k at s ≡ sound_from kind at s
unfolding sound_from
sound_alike k kind e at s = ap (λ shape. all_are (sound_parameter shape) (cut shape 0 (drop at s))) e

-- A byte under the mask of its limit is the byte modulo the limit; where there is no limit, and so no mask, it is 0.
abbrev Masked : List ℕ → Type 0
Masked ls = (b i : ℕ) → bit_and b (get_or (map mask ls) i 0) ≡ b % get_or ls i 1

none_masked : Masked []
none_masked b i = and_mask b 0

one_masked : (width : ℕ) (ls : List ℕ) {limit : ℕ} → 2 ^ width ≡ limit → Masked ls → Masked (limit ∷ ls)
one_masked width ls e h b zero = rw (← e) (and_mask b width)
one_masked width ls e h b (suc i) = h b i

bytes_masked : (count : ℕ) → Masked (replicate count 256)
bytes_masked zero = none_masked
bytes_masked (suc count) = one_masked 8 _ refl (bytes_masked count)

pub whole_masks : (count : ℕ) → replicate count 255 ≡ map mask (replicate count 256)
whole_masks zero = refl
whole_masks (suc count) = ap (λ ms. 255 ∷ ms) (whole_masks count)

question_masked : (n : ℕ) → Masked (question_limits n)
unfolding question_limits
question_masked n = pick_case Masked _ (λ e. one_masked 8 [] refl none_masked) (λ e. none_masked)

value_masked : (n : ℕ) → Masked (value_limits n)
unfolding value_limits
value_masked n =
    pick_case Masked _ (λ e. one_masked 8 (256 ∷ 128 ∷ []) refl (one_masked 8 (128 ∷ []) refl (one_masked 7 [] refl none_masked))) λ e.
    pick_case Masked _ (λ e. one_masked 8 (256 ∷ []) refl (one_masked 8 [] refl none_masked)) λ e.
    pick_case Masked _ (λ e. one_masked 4 [] refl none_masked) λ e.
    pick_case Masked _ (λ e. one_masked 1 [] refl none_masked) (λ e. none_masked)

masked : (kind low high : ℕ) → Masked ((shape_of kind).limits low high)
masked kind low high =
    each_shape (λ shape. Masked (shape.limits low high)) kind
    (bytes_masked high) (question_masked (low + 256 * high)) (value_masked (low + 256 * high))

-- a number of two bytes from its halves
pub both_halves : (n : ℕ) → n % 256 + 256 * (n / 256) ≡ n
both_halves n = omega arith

-- The bytes that `defined` looks at are known: of bytes, cleaning leaves them as they are.
abbrev Known : Shape → Type 0
Known shape =
    (p : List ℕ) → all_bytes p ≡ true → (q : List ℕ) → selector q ≡ selector (cleaned shape p) →
    byte_at q 2 ≡ byte_at (cleaned shape p) 2 → byte_at q 3 ≡ byte_at (cleaned shape p) 3 → shape.defined q ≡ shape.defined p

question_known : Known question
question_known p bytes q s one two = ap defined_selector (s ∙ selector-cleaned question p bytes)

setting_known : Known setting
unfolding defined_value
setting_known p bytes q s one two =
    let own = s ∙ selector-cleaned setting p bytes in
    rw own
    (pick_same (eqb (selector p) input_count_state) (defined_selector (selector p)) λ e.
    let n = eqb-true (selector p) input_count_state e in
    ap₂ (λ low high. within 1 3 (low + 256 * high))
    (one ∙ count_cleaned p 2 bytes n refl) (two ∙ count_cleaned p 3 bytes n refl))

known : (kind : ℕ) → Known (shape_of kind)
known kind = each_shape Known kind (λ p bytes q s one two. refl) question_known setting_known

-- The masks by the first two bytes.
pub masks_by : (at : ℕ) (s : List ℕ) {own shape : Shape} → own ≡ shape → {ls : List ℕ} → ls ≡ shape.limits (byte_at s at) (byte_at s (at + 1)) →
    map mask ls ≡ map mask (limits_of own (drop at s))
masks_by at s e l = ap (map mask) (l ∙ sym (ap (λ sh. limits_of sh (drop at s)) e ∙ limits_here _ at s))

module _ (kind at : ℕ) (s : List ℕ) where
  abbrev rest : List ℕ
  rest = drop at s

  -- The list from here on.
  pub sound_step : at < length s →
      sound_from kind at s ≡ sound_parameter (shape_of kind) (parameter_at kind at s) && sound_from kind (at + parameter_size (shape_of kind) rest) s
  unfolding sound_from parameter_at all_are
  sound_step h = ap (all_are (sound_parameter (shape_of kind))) (cut-here (shape_of kind) at s h)

  pub parameters_step : at < length s → parameters_from kind at s ≡ used_at kind at s ∷ parameters_from kind (at + parameter_size (shape_of kind) rest) s
  unfolding parameters_from parameter_at
  parameters_step h = ap (map (cleaned (shape_of kind))) (cut-here (shape_of kind) at s h)

  pub parameters_end : length s ≤ at → parameters_from kind at s ≡ []
  unfolding parameters_from
  parameters_end h = ap (map (cleaned (shape_of kind))) (cut_end (shape_of kind) at s h)

  -- Where the next one begins.
  pub next_inside : at < length s → next_from kind at s ≡ at + parameter_size (shape_of kind) rest
  unfolding next_from
  next_inside h = pick_true _ _ (lt-ltb at (length s) h)

  next_past : length s ≤ at → next_from kind at s ≡ at
  unfolding next_from
  next_past h = pick-false _ _ (le-ltb at (length s) h)

  used_past : length s ≤ at → [] ≡ used_at kind at s
  unfolding parameter_at cleaned zip_with
  used_past h = sym (ap (cleaned (shape_of kind)) (none_behind s at (parameter_size (shape_of kind) rest) h))

  -- What the code finds at a place.
  pub nothing_is : length s ≤ at → {n first second third : ℕ} → n ≡ 0 → first ≡ 0 → second ≡ 0 → third ≡ 0 →
      ParameterIs kind at s (record { selector = n; first = first; second = second; third = third; next = at })
  nothing_is h n one two three =
      let none = used_past h in
      record {
        selected = n ∙ ap selector none;
        one = one ∙ ap (λ u. byte_at u 2) none;
        two = two ∙ ap (λ u. byte_at u 3) none;
        three = three ∙ ap (λ u. byte_at u 4) none;
        behind = sym (next_past h);
        further = λ l. omega arith;
        list = λ l. absurd (omega arith);
      }

  module _ {masks : List ℕ} (own : masks ≡ map mask (limits_of (shape_of kind) rest)) where
    size_by : 2 + length masks ≡ parameter_size (shape_of kind) rest
    unfolding parameter_size
    size_by = ap (λ n. 2 + n) (ap (λ ms. length ms) own ∙ length-map _ mask)

    -- a byte of the value under its mask
    used_by : (i : ℕ) → {b : ℕ} → b ≡ bit_and (byte_at s (at + suc (suc i))) (byte_at masks i) → b ≡ byte_at (used_at kind at s) (suc (suc i))
    unfolding limits_of parameter_at
    used_by i e =
        e ∙
        ap (λ ms. bit_and (byte_at s (at + suc (suc i))) (byte_at ms i)) own ∙
        masked kind _ _ (byte_at s (at + suc (suc i))) i ∙
        sym (used_here (shape_of kind) at s i)

    pub parameter_is : at < length s → ((i : ℕ) → byte_at s i < 256) → {n : ℕ} → n ≡ number_at 2 at s →
        {first second third : ℕ} → first ≡ bit_and (byte_at s (at + 2)) (byte_at masks 0) →
        second ≡ bit_and (byte_at s (at + 3)) (byte_at masks 1) → third ≡ bit_and (byte_at s (at + 4)) (byte_at masks 2) →
        ParameterIs kind at s (record { selector = n; first = first; second = second; third = third; next = at + 2 + length masks })
    unfolding parameter_at
    parameter_is h small n one two three =
        let size = size_by in
        let next : at + 2 + length masks ≡ at + parameter_size (shape_of kind) rest = omega arith in
        record {
          selected = n ∙ number_two at s ∙ selected_here (shape_of kind) at s refl (small at) refl (small (at + 1));
          one = used_by 0 one;
          two = used_by 1 two;
          three = used_by 2 three;
          behind = next ∙ sym (next_inside h);
          further = λ _. omega arith;
          list = λ _. parameters_step h ∙ ap (λ n. used_at kind at s ∷ parameters_from kind n s) (sym next);
        }

  -- The parameter is whole and defined where the next one begins inside and its known bytes are defined.
  pub sound_known : all_bytes s ≡ true → at < length s → {p : Parameter} → ParameterIs kind at s p →
      leb p.next (length s) && (shape_of kind).defined (known_bytes p) ≡ sound_parameter (shape_of kind) (parameter_at kind at s)
  unfolding parameter_at all_bytes
  sound_known bytes h {p} is =
      let size = parameter_size (shape_of kind) rest in
      let next : p.next ≡ at + size = is.behind ∙ next_inside h in
      let own = (all_split (λ b. ltb b 256) size rest (all_split (λ b. ltb b 256) at s bytes).1).0 in
      ap (λ n. leb n (length s) && (shape_of kind).defined (known_bytes p)) next ∙
      ap (λ t. leb (at + size) (length s) && t) (known kind (take size rest) own (known_bytes p) (both_halves p.selector ∙ is.selected) is.one is.two) ∙
      by_end (leb (at + size) (length s)) refl
    where
      by_end : (t : Bool) → leb (at + parameter_size (shape_of kind) rest) (length s) ≡ t →
          t && (shape_of kind).defined (take (parameter_size (shape_of kind) rest) rest) ≡
          sound_parameter (shape_of kind) (take (parameter_size (shape_of kind) rest) rest)
      by_end true e = sym (sound_whole (shape_of kind) at s (leb-true _ _ e))
      by_end false e = sym (sound_cut (shape_of kind) at s (leb-false _ _ e))

  -- A list is sound from this parameter on where the parameter is, and the list from the next one on; nothing behind the end is unsound.
  pub sound_turn : all_bytes s ≡ true → at < length s → {p : Parameter} → ParameterIs kind at s p →
      sound_from kind at s ≡ (leb p.next (length s) && (shape_of kind).defined (known_bytes p)) && sound_from kind p.next s
  unfolding sound_from parameter_at all_are
  sound_turn bytes h is =
      ap (all_are (sound_parameter (shape_of kind))) (cut-here (shape_of kind) at s h) ∙
      ap₂ ◌&&◌ (sym (sound_known bytes h is)) (ap (λ n. sound_from kind n s) (sym (is.behind ∙ next_inside h)))

  pub sound_end : length s ≤ at → sound_from kind at s ≡ true
  unfolding sound_from all_are
  sound_end h = ap (all_are (sound_parameter (shape_of kind))) (cut_end (shape_of kind) at s h)
