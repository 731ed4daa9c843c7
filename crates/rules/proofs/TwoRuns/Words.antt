-- What 23 leaves depends on word classes and on nothing else of the codes.
use Prim.Native.Nat.{ℕ, zero, suc, ◌+◌}
use mathlib.Core.Path.{◌≡◌, refl, ap}
use mathlib.Core.Bool.{Bool, not}
use mathlib.Core.List.{List, [], ◌∷◌, map, reverse, reverse_aux}
use lib.ListN.{drop, length-map}
use Rattle.rules.specs.Choice.{pick}
use Rattle.rules.specs.Editing.{is_word, leading, left_by_delete_word}

module _ {A : Type 0} where
  drop-map : (f : A → ℕ) (n : ℕ) (cs : List A) → drop n (map f cs) ≡ map f (drop n cs)
  drop-map f zero cs = refl
  drop-map f (suc n) [] = refl
  drop-map f (suc n) (c ∷ cs) = drop-map f n cs

  reverse_aux_map : (f : A → ℕ) (cs ds : List A) → reverse_aux (map f cs) (map f ds) ≡ map f (reverse_aux cs ds)
  reverse_aux_map f [] ds = refl
  reverse_aux_map f (c ∷ cs) ds = reverse_aux_map f cs (c ∷ ds)

  reverse-map : (f : A → ℕ) (cs : List A) → reverse (map f cs) ≡ map f (reverse cs)
  reverse-map f cs = reverse_aux_map f cs []

  -- two codes of each cell
  module _ (f g : A → ℕ) where
    leading_same : (test : ℕ → Bool) → ((c : A) → test (f c) ≡ test (g c)) → (cs : List A) →
        leading test (map f cs) ≡ leading test (map g cs)
    unfolding leading
    leading_same test same [] = refl
    leading_same test same (c ∷ cs) = λ i. pick (same c i) (1 + leading_same test same cs i) 0

    pub left_by_delete_word_same : ((c : A) → is_word (f c) ≡ is_word (g c)) → (cs : List A) → left_by_delete_word (map f cs) ≡ left_by_delete_word (map g cs)
    unfolding left_by_delete_word
    left_by_delete_word_same same cs =
        let words = leading_same is_word same in
        let spaces = leading_same (λ n. not (is_word n)) (λ c. ap not (same c)) in
        simp (length-map, reverse-map, drop-map, words, spaces)
