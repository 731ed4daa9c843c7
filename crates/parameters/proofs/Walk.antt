-- Parameter lists of any shape, a parameter at a time: by the bytes of the slice, in step with the cutting of the definition.
use mathlib.Core.Path.{◌≡◌, refl, sym, ap, ap₂, ◌∙◌}
use Prim.Native.Nat.{ℕ, zero, suc, ◌+◌, ◌*◌, ◌%◌, ◌<◌, ◌≤◌}
use native.Mathlib.Nat.{add-zero, mod-one, zero-mod, mod-eq_of_lt}
use native.Mathlib.Omega.{arith}
use mathlib.Core.Bool.{Bool, true, false, ◌&&◌}
use mathlib.Core.List.{List, [], ◌∷◌, zip_with}
use lib.Dec.{ltb}
use lib.ListN.{length, get_or, take, drop, length-take, length-drop, drop_of_length-le, get_or-eq_default}
use lib.Seq.{get_or-take, get_or-drop, drop-cons, drop-drop, length-take-le}
use borrow.Author.Tests.{eq-eqb, ne_eqb, ltb-true, ltb-false}
use Rattle.rules.specs.Messages.Layout.{byte_at}
use Rattle.rules.specs.Messages.Parameters.{Shape, selector, limits_of, parameter_size, sound_parameter, cleaned, cut}
use Rattle.rules.proofs.Parameters.{cut_cons}
use Rattle.fields.proofs.Numbers.{byte_behind}

-- a byte under its limit; 1 where there is no limit
pub cleaned_byte : (p ls : List ℕ) (i : ℕ) → byte_at (zip_with ◌%◌ p ls) i ≡ byte_at p i % get_or ls i 1
unfolding zip_with
cleaned_byte [] ls i = sym (zero-mod (get_or ls i 1))
cleaned_byte (b ∷ p) [] i = sym (mod-one (byte_at (b ∷ p) i))
cleaned_byte (b ∷ p) (l ∷ ls) zero = refl
cleaned_byte (b ∷ p) (l ∷ ls) (suc i) = cleaned_byte p ls i

module _ (shape : Shape) where
  -- the first two bytes say how a parameter goes on
  limits_taken : (n : ℕ) (p : List ℕ) → 2 ≤ n → limits_of shape (take n p) ≡ limits_of shape p
  unfolding limits_of
  limits_taken n p h = ap₂ shape.limits (get_or-take n p 0 0 (omega arith)) (get_or-take n p 1 0 (omega arith))

  pub size_taken : (n : ℕ) (p : List ℕ) → 2 ≤ n → parameter_size shape (take n p) ≡ parameter_size shape p
  unfolding parameter_size
  size_taken n p h = ap (λ ls. 2 + length ls) (limits_taken n p h)

  pub size_least : (p : List ℕ) → 2 ≤ parameter_size shape p
  unfolding parameter_size
  size_least p = omega arith

  module _ (at : ℕ) (s : List ℕ) where
    abbrev rest : List ℕ
    rest = drop at s

    abbrev size : ℕ
    size = parameter_size shape rest

    abbrev here : List ℕ
    here = take size rest

    pub limits_here : limits_of shape rest ≡ shape.limits (byte_at s at) (byte_at s (at + 1))
    unfolding limits_of
    limits_here = ap₂ shape.limits (byte_behind s at) (get_or-drop at s 1 0)

    pub size-here : parameter_size shape here ≡ size
    size-here = size_taken size rest (size_least rest)

    -- cut short, or whole
    pub sound_cut : length s < at + size → sound_parameter shape here ≡ false
    unfolding sound_parameter
    sound_cut h =
        let l = length-take size rest in
        let d = length-drop at s in
        let e = size-here in
        let least = size_least rest in
        ap (λ t. t && shape.defined here) (ne_eqb (length here) (parameter_size shape here) (λ q. omega arith))

    pub sound_whole : at + size ≤ length s → sound_parameter shape here ≡ shape.defined here
    unfolding sound_parameter
    sound_whole h =
        let d = length-drop at s in
        let l = length-take-le size rest (omega arith) in
        ap (λ t. t && shape.defined here) (eq-eqb (length here) (parameter_size shape here) (l ∙ sym size-here))

    -- a byte of the parameter
    pub byte_here : (i : ℕ) → i < size → byte_at here i ≡ byte_at s (at + i)
    byte_here i h = get_or-take size rest i 0 h ∙ get_or-drop at s i 0

    -- the list from here on is this parameter and what stands behind it
    pub cut-here : at < length s → cut shape zero rest ≡ here ∷ cut shape zero (drop (at + size) s)
    cut-here h =
        rw (drop-cons s at 0 h) (cut_cons shape (get_or s at 0) (drop (suc at) s)) ∙
        ap (λ r. here ∷ cut shape zero r) (drop-drop size at s)

    -- the bytes behind the first two, unused bits set to 0
    pub used_here : (i : ℕ) → byte_at (cleaned shape here) (suc (suc i)) ≡ byte_at s (at + suc (suc i)) % get_or (limits_of shape rest) i 1
    unfolding cleaned parameter_size
    used_here i =
        cleaned_byte here (256 ∷ 256 ∷ limits_of shape here) (suc (suc i)) ∙
        ap (λ ls. byte_at here (suc (suc i)) % get_or ls i 1) (limits_taken size rest (size_least rest)) ∙
        by_limit (ltb i (length (limits_of shape rest))) refl
      where
        by_limit : (t : Bool) → ltb i (length (limits_of shape rest)) ≡ t →
            byte_at here (suc (suc i)) % get_or (limits_of shape rest) i 1 ≡ byte_at s (at + suc (suc i)) % get_or (limits_of shape rest) i 1
        by_limit true e =
            let l = ltb-true i (length (limits_of shape rest)) e in
            ap (λ b. b % get_or (limits_of shape rest) i 1) (byte_here (suc (suc i)) (omega arith))
        by_limit false e =
            let none = get_or-eq_default (limits_of shape rest) 1 (ltb-false i (length (limits_of shape rest)) e) in
            rw none (mod-one (byte_at here (suc (suc i))) ∙ sym (mod-one (byte_at s (at + suc (suc i)))))

    -- the first two, which are bytes
    first_two : (i : ℕ) → i < 2 → get_or (256 ∷ 256 ∷ limits_of shape here) i 1 ≡ 256 → {b : ℕ} → b ≡ byte_at s (at + i) → b < 256 →
        b ≡ byte_at (cleaned shape here) i
    unfolding cleaned
    first_two i h limit e b< =
        let least = size_least rest in
        sym
        (cleaned_byte here (256 ∷ 256 ∷ limits_of shape here) i ∙
        ap₂ ◌%◌ (byte_here i (omega arith) ∙ sym e) limit ∙
        mod-eq_of_lt b<)

    pub selected_here : {low high : ℕ} → low ≡ byte_at s at → low < 256 → high ≡ byte_at s (at + 1) → high < 256 →
        low + 256 * high ≡ selector (cleaned shape here)
    selected_here p p< q q< =
        ap₂ (λ l h. l + 256 * h)
        (first_two 0 (omega arith) refl (p ∙ ap (byte_at s) (sym (add-zero at))) p<)
        (first_two 1 (omega arith) refl q q<)

pub cut_end : (shape : Shape) (at : ℕ) (s : List ℕ) → length s ≤ at → cut shape zero (drop at s) ≡ []
unfolding cut
cut_end shape at s h = ap (cut shape zero) (drop_of_length-le s h)
