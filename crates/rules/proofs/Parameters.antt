-- Parameter lists: cutting undoes joining, and cleaning keeps a parameter sound. The laws hold for any shape; what cleaning
-- asks of a shape is a record, which the three shapes meet.
use mathlib.Core.Path.{◌≡◌, refl, sym, ap, ap₂, ◌∙◌}
use Prim.Native.Nat.{ℕ, zero, suc, ◌+◌, ◌*◌, ◌-◌, ◌%◌, ◌<◌}
use native.Mathlib.Nat.{mod-lt, mod-eq_of_lt}
use native.Mathlib.Omega.{arith}
use mathlib.Core.Bool.{Bool, true, false, ◌&&◌, false≢true}
use mathlib.Core.List.{List, [], ◌∷◌, ◌++◌, map, zip_with}
use lib.Dec.{ltb, eqb}
use lib.ListN.{length, take, drop, replicate, length-append}
use lib.Seq.{take_at, drop_at}
use borrow.Author.Tests.{ltb-true, lt-ltb, eqb-true, eq-eqb}
use Rattle.rules.specs.Choice.{within, all_are, joined}
use Rattle.rules.specs.Messages.Layout.{byte_at}
use Rattle.rules.specs.Messages.Parameters.{Shape, under, limits_of, parameter_size, sound_parameter, fits_parameter, cleaned, cut}
use Rattle.rules.specs.Messages.Parameters.{selector, input_count_state, defined_selector, question_limits, value_limits, defined_value}
use Rattle.rules.specs.Messages.Parameters.{initiation, question, setting}
use Rattle.rules.specs.Messages.Codec.{all_bytes}
use Rattle.rules.proofs.Choice.{both, halves, all_cons, all_joined, all_both, all_map, pick_true, pick-false, pick_case}

-- Cutting.
module _ (shape : Shape) where
  cut-drop : (n : ℕ) (xs : List ℕ) → cut shape n xs ≡ cut shape zero (drop n xs)
  unfolding cut
  cut-drop zero xs = refl
  cut-drop (suc n) [] = refl
  cut-drop (suc n) (x ∷ xs) = cut-drop n xs

  -- a parameter and what stands behind it
  size_suc : (p : List ℕ) → parameter_size shape p ≡ suc (parameter_size shape p - 1)
  unfolding parameter_size
  size_suc p = omega arith

  pub cut_cons : (x : ℕ) (xs : List ℕ) →
      cut shape zero (x ∷ xs) ≡ take (parameter_size shape (x ∷ xs)) (x ∷ xs) ∷ cut shape zero (drop (parameter_size shape (x ∷ xs)) (x ∷ xs))
  unfolding cut
  cut_cons x xs =
      let n = parameter_size shape (x ∷ xs) in
      let s = size_suc (x ∷ xs) in
      ap (λ r. take n (x ∷ xs) ∷ r) (cut-drop (n - 1) xs ∙ ap (λ k. cut shape zero (drop k (x ∷ xs))) (sym s))

  -- the bytes of the parameters, one after the other, are the bytes that were cut
  pub joined-cut : (n : ℕ) (xs : List ℕ) → take n xs ++ joined (cut shape n xs) ≡ xs
  unfolding cut joined
  joined-cut zero [] = refl
  joined-cut (suc n) [] = refl
  joined-cut zero (x ∷ xs) =
      let n = parameter_size shape (x ∷ xs) in
      ap (λ k. take k (x ∷ xs) ++ joined (cut shape (n - 1) xs)) (size_suc (x ∷ xs)) ∙ ap (λ r. x ∷ r) (joined-cut (n - 1) xs)
  joined-cut (suc n) (x ∷ xs) = ap (λ r. x ∷ r) (joined-cut n xs)

  -- a parameter's size shows in its first two bytes
  size_append : (p q : List ℕ) → length p ≡ parameter_size shape p → parameter_size shape (p ++ q) ≡ parameter_size shape p
  unfolding parameter_size limits_of
  size_append [] q h = omega arith
  size_append (x ∷ []) q h = omega arith
  size_append (x ∷ y ∷ p) q h = refl

  pub sound_size : (p : List ℕ) → sound_parameter shape p ≡ true → length p ≡ parameter_size shape p
  unfolding sound_parameter
  sound_size p e = eqb-true (length p) (parameter_size shape p) (halves (eqb (length p) (parameter_size shape p)) (shape.defined p) e).0

  pub cut_append : (p q : List ℕ) → sound_parameter shape p ≡ true → cut shape zero (p ++ q) ≡ p ∷ cut shape zero q
  cut_append [] q e = let n = sound_size [] e in let s = size_suc [] in absurd (omega arith)
  cut_append (x ∷ p) q e =
      let n = sound_size (x ∷ p) e in
      let l = n ∙ sym (size_append (x ∷ p) q n) in
      cut_cons x (p ++ q) ∙ ap₂ ◌∷◌ (take_at (x ∷ p) q _ l) (ap (cut shape zero) (drop_at (x ∷ p) q _ l))

  pub cut-joined : (ps : List (List ℕ)) → all_are (sound_parameter shape) ps ≡ true → cut shape zero (joined ps) ≡ ps
  unfolding joined cut
  cut-joined [] e = refl
  cut-joined (p ∷ ps) e =
      let h = all_cons (sound_parameter shape) p ps e in
      cut_append p (joined ps) h.0 ∙ ap (λ r. p ∷ r) (cut-joined ps h.1)

-- Cleaning.

-- limits that leave a value for each byte
unfoldable pub positive : List ℕ → Bool
positive ls = all_are (λ l. ltb 0 l) ls

pub under_cleaned : (ls p : List ℕ) → positive ls ≡ true → length p ≡ length ls → under ls (zip_with ◌%◌ p ls) ≡ true
unfolding under zip_with positive all_are
under_cleaned [] [] e h = refl
under_cleaned [] (b ∷ p) e h = absurd (omega arith)
under_cleaned (l ∷ ls) [] e h = absurd (omega arith)
under_cleaned (l ∷ ls) (b ∷ p) e h =
    let t = halves (ltb 0 l) (positive ls) e in
    both (lt-ltb (b % l) l (mod-lt b (ltb-true 0 l t.0))) (under_cleaned ls p t.1 (omega arith))

pub length_cleaned : (ls p : List ℕ) → length p ≡ length ls → length (zip_with ◌%◌ p ls) ≡ length p
unfolding zip_with
length_cleaned [] [] h = refl
length_cleaned [] (b ∷ p) h = omega arith
length_cleaned (l ∷ ls) [] h = refl
length_cleaned (l ∷ ls) (b ∷ p) h = ap suc (length_cleaned ls p (omega arith))

-- bytes under their limits stay
pub cleaned_under : (ls p : List ℕ) → under ls p ≡ true → zip_with ◌%◌ p ls ≡ p
unfolding under zip_with
cleaned_under [] [] e = refl
cleaned_under [] (b ∷ p) e = absurd (false≢true e)
cleaned_under (l ∷ ls) [] e = absurd (false≢true e)
cleaned_under (l ∷ ls) (b ∷ p) e =
    let t = halves (ltb b l) (under ls p) e in
    ap₂ ◌∷◌ (mod-eq_of_lt (ltb-true b l t.0)) (cleaned_under ls p t.1)

-- a byte whose limit is 256 stays
pub cleaned_at : (ls p : List ℕ) (i : ℕ) → all_bytes p ≡ true → byte_at ls i ≡ 256 → byte_at (zip_with ◌%◌ p ls) i ≡ byte_at p i
unfolding zip_with all_bytes all_are
cleaned_at [] p i e h = omega arith
cleaned_at (l ∷ ls) [] i e h = refl
cleaned_at (l ∷ ls) (b ∷ p) zero e h = rw h (mod-eq_of_lt (ltb-true b 256 (halves (ltb b 256) (all_bytes p) e).0))
cleaned_at (l ∷ ls) (b ∷ p) (suc i) e h = cleaned_at ls p i (halves (ltb b 256) (all_bytes p) e).1 h

-- What cleaning asks of a shape.
pub record Cleanable (shape : Shape) : Type 0 where
  pub values : (low high : ℕ) → positive (shape.limits low high) ≡ true
  pub kept : (p : List ℕ) → all_bytes p ≡ true → shape.defined p ≡ true → shape.defined (cleaned shape p) ≡ true

module _ (shape : Shape) where
  -- the first two bytes stay, and so do the limits
  pub head_cleaned : (p : List ℕ) (i : ℕ) → i < 2 → all_bytes p ≡ true → byte_at (cleaned shape p) i ≡ byte_at p i
  unfolding cleaned
  head_cleaned p zero h e = cleaned_at (256 ∷ 256 ∷ limits_of shape p) p 0 e refl
  head_cleaned p (suc zero) h e = cleaned_at (256 ∷ 256 ∷ limits_of shape p) p 1 e refl
  head_cleaned p (suc (suc i)) h e = absurd (omega arith)

  pub limits_cleaned : (p : List ℕ) → all_bytes p ≡ true → limits_of shape (cleaned shape p) ≡ limits_of shape p
  unfolding limits_of
  limits_cleaned p e = ap₂ shape.limits (head_cleaned p 0 (omega arith) e) (head_cleaned p 1 (omega arith) e)

  pub size_cleaned : (p : List ℕ) → sound_parameter shape p ≡ true → length (cleaned shape p) ≡ length p
  unfolding cleaned parameter_size
  size_cleaned p e =
      let n = sound_size shape p e in
      length_cleaned (256 ∷ 256 ∷ limits_of shape p) p (omega arith)

  pub fits_cleaned : (p : List ℕ) → fits_parameter shape p ≡ true → cleaned shape p ≡ p
  unfolding cleaned fits_parameter
  fits_cleaned p e = cleaned_under (256 ∷ 256 ∷ limits_of shape p) p e

  module _ (c : Cleanable shape) (p : List ℕ) (bytes : all_bytes p ≡ true) (e : sound_parameter shape p ≡ true) where
    pub cleaned_sound : sound_parameter shape (cleaned shape p) ≡ true
    unfolding sound_parameter parameter_size
    cleaned_sound =
        let h = halves (eqb (length p) (parameter_size shape p)) (shape.defined p) e in
        let same = ap (λ ls. 2 + length ls) (sym (limits_cleaned p bytes)) in
        let size = size_cleaned p e ∙ sound_size shape p e ∙ same in
        both (eq-eqb (length (cleaned shape p)) (parameter_size shape (cleaned shape p)) size) (c.kept p bytes h.1)

    pub cleaned_fits : fits_parameter shape (cleaned shape p) ≡ true
    unfolding fits_parameter parameter_size limits_of cleaned positive all_are
    cleaned_fits =
        let n = sound_size shape p e in
        rw (limits_cleaned p bytes) (under_cleaned (256 ∷ 256 ∷ limits_of shape p) p (c.values (byte_at p 0) (byte_at p 1)) (omega arith))

  -- Whole lists.
  pub map-cleaned : (ps : List (List ℕ)) → all_are (fits_parameter shape) ps ≡ true → map (cleaned shape) ps ≡ ps
  map-cleaned [] e = refl
  map-cleaned (p ∷ ps) e =
      let h = all_cons (fits_parameter shape) p ps e in
      ap₂ ◌∷◌ (fits_cleaned p h.0) (map-cleaned ps h.1)

  pub length-joined-cleaned : (ps : List (List ℕ)) → all_are (sound_parameter shape) ps ≡ true →
      length (joined (map (cleaned shape) ps)) ≡ length (joined ps)
  unfolding joined
  length-joined-cleaned [] e = refl
  length-joined-cleaned (p ∷ ps) e =
      let h = all_cons (sound_parameter shape) p ps e in
      length-append (cleaned shape p) (joined (map (cleaned shape) ps)) ∙
      ap₂ ◌+◌ (size_cleaned p h.0) (length-joined-cleaned ps h.1) ∙
      sym (length-append p (joined ps))

  -- what was cut from bytes and cleaned fits, is sound, and takes as many bytes
  module _
      (c : Cleanable shape) (rest : List ℕ)
      (bytes : all_bytes rest ≡ true) (e : all_are (sound_parameter shape) (cut shape zero rest) ≡ true) where
    cut_bytes : all_are (λ p. all_bytes p && sound_parameter shape p) (cut shape zero rest) ≡ true
    unfolding all_bytes
    cut_bytes = all_both all_bytes (sound_parameter shape) (cut shape zero rest) (rw (← joined-cut shape zero rest, all_joined) at bytes) e

    each_cleaned : (q : List ℕ → Bool) → ((p : List ℕ) → all_bytes p ≡ true → sound_parameter shape p ≡ true → q (cleaned shape p) ≡ true) →
        all_are q (map (cleaned shape) (cut shape zero rest)) ≡ true
    each_cleaned q h =
        all_map _ q (cleaned shape) (λ p t. let k = halves (all_bytes p) (sound_parameter shape p) t in h p k.0 k.1)
        (cut shape zero rest) cut_bytes

    pub cut-cleaned_fits : all_are (fits_parameter shape) (map (cleaned shape) (cut shape zero rest)) ≡ true
    cut-cleaned_fits = each_cleaned (fits_parameter shape) (cleaned_fits c)

    pub cut-cleaned_sound : all_are (sound_parameter shape) (map (cleaned shape) (cut shape zero rest)) ≡ true
    cut-cleaned_sound = each_cleaned (sound_parameter shape) (cleaned_sound c)

    pub cut-cleaned-length : length (joined (map (cleaned shape) (cut shape zero rest))) ≡ length rest
    cut-cleaned-length = length-joined-cleaned (cut shape zero rest) e ∙ ap length (joined-cut shape zero rest)

-- The three shapes.
positive-replicate : (n : ℕ) → positive (replicate n 256) ≡ true
unfolding positive all_are
positive-replicate zero = refl
positive-replicate (suc n) = positive-replicate n

pub initiation_cleanable : Cleanable initiation
initiation_cleanable = record { values = λ kind count. positive-replicate count; kept = λ p bytes e. refl }

-- the selector is the first two bytes
pub selector-cleaned : (shape : Shape) (p : List ℕ) → all_bytes p ≡ true → selector (cleaned shape p) ≡ selector p
selector-cleaned shape p e = ap₂ (λ low high. low + 256 * high) (head_cleaned shape p 0 (omega arith) e) (head_cleaned shape p 1 (omega arith) e)

pub question_cleanable : Cleanable question
unfolding question_limits positive all_are
question_cleanable =
    record {
      values = λ low high. pick_case (λ ls. positive ls ≡ true) _ (λ y. refl) (λ n. refl);
      kept = λ p bytes e. ap defined_selector (selector-cleaned question p bytes) ∙ e;
    }

values_positive : (n : ℕ) → positive (value_limits n) ≡ true
unfolding value_limits positive all_are
values_positive n =
    pick_case P _ (λ y. refl) λ n.
    pick_case P _ (λ y. refl) λ n.
    pick_case P _ (λ y. refl) λ n.
    pick_case P _ (λ y. refl) λ n. refl
  where
    P : List ℕ → Type 0
    P ls = positive ls ≡ true

-- all bytes of INPUT-COUNT-STATE are used
count_limits : value_limits input_count_state ≡ 256 ∷ 256 ∷ []
unfolding value_limits
count_limits = pick-false _ _ refl ∙ pick_true _ _ refl

pub count_cleaned : (p : List ℕ) (i : ℕ) → all_bytes p ≡ true → selector p ≡ input_count_state →
    byte_at (256 ∷ 256 ∷ 256 ∷ 256 ∷ []) i ≡ 256 → byte_at (cleaned setting p) i ≡ byte_at p i
unfolding cleaned limits_of
count_cleaned p i bytes s h =
    let same = ap value_limits s ∙ count_limits in
    cleaned_at (256 ∷ 256 ∷ limits_of setting p) p i bytes (ap (λ ls. byte_at (256 ∷ 256 ∷ ls) i) same ∙ h)

value_kept : (p : List ℕ) → all_bytes p ≡ true → defined_value p ≡ true → defined_value (cleaned setting p) ≡ true
unfolding defined_value
value_kept p bytes e =
    rw (selector-cleaned setting p bytes) (pick_case (λ r. r ≡ true) (eqb (selector p) input_count_state) as_count as_selector)
  where
    as_count : eqb (selector p) input_count_state ≡ true → within 1 3 (byte_at (cleaned setting p) 2 + 256 * byte_at (cleaned setting p) 3) ≡ true
    as_count t =
        let s = eqb-true (selector p) input_count_state t in
        rw (count_cleaned p 2 bytes s refl, count_cleaned p 3 bytes s refl) (sym (pick_true _ _ t) ∙ e)

    as_selector : eqb (selector p) input_count_state ≡ false → defined_selector (selector p) ≡ true
    as_selector t = sym (pick-false _ _ t) ∙ e

pub setting_cleanable : Cleanable setting
setting_cleanable = record { values = λ low high. values_positive (low + 256 * high); kept = value_kept }
