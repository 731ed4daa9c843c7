-- The parameters of a Characteristics, one at a time.
use mathlib.Core.Path.{◌≡◌, refl, sym, ap, ◌∙◌}
use Prim.Native.Nat.{ℕ, ◌+◌, ◌*◌, ◌-◌, ◌<◌, ◌≤◌}
use native.Mathlib.Nat.{mod-lt}
use native.Mathlib.Omega.{arith}
use mathlib.Core.Bool.{true}
use mathlib.Core.List.{List, [], ◌∷◌, ◌++◌}
use lib.ListN.{length, get_or, drop}
use borrow.Author.Tests.{lt-ltb}
use Rattle.rules.specs.Choice.{pick, joined}
use Rattle.rules.specs.Messages.Layout.{byte_at, number_of, fits, bytes_of}
use Rattle.rules.specs.Messages.Parameters.{Shape, selector, value_limits, limits_of, parameter_size, sound_parameter, cleaned}
use Rattle.rules.proofs.Choice.{both, halves, pick_case}
use Rattle.rules.proofs.Fields.{fields_in_number_of}
use Rattle.rules.proofs.Parameters.{sound_size, size_cleaned}
use Rattle.parameters.specs.declared.Parameter.{Parameter}
use Rattle.parameters.specs.Lists.{ParameterIs, shape_of, parameter_at, sound_from, parameters_from, used_at}
use Rattle.parameters.proofs.Walk.{cleaned_byte, size_least, size-here}
use Rattle.parameters.proofs.Shapes.{sound_step, parameters_end, next_inside}
use Rattle.parameters.specs.Lists.{setting_bytes}

-- A selector is its two bytes.
two_bytes : {x y : ℕ} → x < 256 → y < 256 → bytes_of 2 (x + 256 * y) ≡ x ∷ y ∷ []
unfolding number_of fits
two_bytes {x} {y} x< y< =
    let e : x + 256 * y ≡ x + 256 * (y + 256 * 0) = omega arith in
    ap (bytes_of 2) e ∙
    fields_in_number_of (8 ∷ 8 ∷ []) (x ∷ y ∷ []) (both (lt-ltb x 256 x<) (both (lt-ltb y 256 y<) refl))

used_byte : (shape : Shape) (p : List ℕ) (k : ℕ) → get_or (256 ∷ 256 ∷ limits_of shape p) k 1 ≡ 256 → byte_at (cleaned shape p) k < 256
unfolding cleaned
used_byte shape p k limit = rw (cleaned_byte p (256 ∷ 256 ∷ limits_of shape p) k, limit) (mod-lt (byte_at p k) (omega arith))

module _ (shape : Shape) (p : List ℕ) where
  pub selector_bytes : bytes_of 2 (selector (cleaned shape p)) ≡ byte_at (cleaned shape p) 0 ∷ byte_at (cleaned shape p) 1 ∷ []
  selector_bytes = two_bytes (used_byte shape p 0 refl) (used_byte shape p 1 refl)

-- A parameter of at most three bytes behind its selector, taken apart.
apart : (u : List ℕ) → 2 ≤ length u → length u ≤ 5 → bytes_of 2 (selector u) ≡ byte_at u 0 ∷ byte_at u 1 ∷ [] →
    u ≡ setting_bytes (selector u) (byte_at u 2) (byte_at u 3) (byte_at u 4) (length u - 2)
unfolding setting_bytes
apart [] h k s = absurd (omega arith)
apart (x ∷ []) h k s = absurd (omega arith)
apart (x ∷ y ∷ []) h k s = ap (λ l. l ++ []) (sym s)
apart (x ∷ y ∷ a ∷ []) h k s = ap (λ l. l ++ (a ∷ [])) (sym s)
apart (x ∷ y ∷ a ∷ b ∷ []) h k s = ap (λ l. l ++ (a ∷ b ∷ [])) (sym s)
apart (x ∷ y ∷ a ∷ b ∷ d ∷ []) h k s = ap (λ l. l ++ (a ∷ b ∷ d ∷ [])) (sym s)
apart (x ∷ y ∷ a ∷ b ∷ d ∷ e ∷ u) h k s = absurd (omega arith)

few_values : (n : ℕ) → length (value_limits n) ≤ 3
unfolding value_limits
few_values n =
    pick_case P _ (λ y. omega arith) λ n.
    pick_case P _ (λ y. omega arith) λ n.
    pick_case P _ (λ y. omega arith) λ n.
    pick_case P _ (λ y. omega arith) λ n. omega arith
  where
    P : List ℕ → Type 0
    P ls = length ls ≤ 3

module _ (t : List ℕ) (i : ℕ) (h : i < length t) (e : sound_from 11 i t ≡ true) {p : Parameter} (is : ParameterIs 11 i t p) where
  abbrev here : List ℕ
  here = parameter_at 11 i t

  abbrev size : ℕ
  size = parameter_size (shape_of 11) (drop i t)

  tests : (sound_parameter (shape_of 11) here ≡ true) × (sound_from 11 (i + size) t ≡ true)
  tests = halves (sound_parameter (shape_of 11) here) (sound_from 11 (i + size) t) (sym (sound_step 11 i t h) ∙ e)

  used_size : length (used_at 11 i t) ≡ size
  unfolding parameter_at
  used_size =
      size_cleaned (shape_of 11) here tests.0 ∙ sound_size (shape_of 11) here tests.0 ∙ size-here (shape_of 11) i t

  few : size ≤ 5
  unfolding shape_of pick parameter_size limits_of
  few = omega (arith, few_values (byte_at (drop i t) 0 + 256 * byte_at (drop i t) 1))

  behind : p.next ≡ i + size
  behind = is.behind ∙ next_inside 11 i t h

  pub whole_next : sound_from 11 p.next t ≡ true
  whole_next = ap (λ n. sound_from 11 n t) behind ∙ tests.1

  pub behind_two : i + 2 ≤ p.next
  behind_two = omega (arith, behind, size_least (shape_of 11) (drop i t))

  pub within_five : p.next ≤ i + 5
  within_five = omega (arith, behind, few)

  used : used_at 11 i t ≡ setting_bytes p.selector p.first p.second p.third (p.next - i - 2)
  used =
      let least = size_least (shape_of 11) (drop i t) in
      let n = used_size in
      let most = few in
      let count : length (used_at 11 i t) - 2 ≡ p.next - i - 2 = omega (arith, behind) in
      apart (used_at 11 i t) (omega arith) (omega arith) (selector_bytes (shape_of 11) here) ∙
      (λ k. setting_bytes (sym is.selected k) (sym is.one k) (sym is.two k) (sym is.three k) (count k))

  -- the first of the settings that are left
  pub first_setting : joined (parameters_from 11 i t) ≡
      setting_bytes p.selector p.first p.second p.third (p.next - i - 2) ++ joined (parameters_from 11 p.next t)
  unfolding joined
  first_setting = ap joined (is.list h) ∙ ap (λ u. u ++ joined (parameters_from 11 p.next t)) used

pub no_settings : (t : List ℕ) (i : ℕ) → length t ≤ i → joined (parameters_from 11 i t) ≡ []
unfolding joined
no_settings t i h = ap joined (parameters_end 11 i t h)
