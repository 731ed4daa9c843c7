-- The places of a token's grammar: one byte more, and where a token ends.
use mathlib.Core.Path.{◌≡◌, refl, sym, ap, ◌∙◌}
use Prim.Native.Nat.{ℕ, suc, ◌+◌, ◌≤◌, ◌<◌}
use native.Mathlib.Numerals.{add-one}
use native.Mathlib.Omega.{arith}
use denote.Enum.Bare.{sameb}
use mathlib.Core.Bool.{true, false, not, ◌&&◌}
use mathlib.Core.List.{List}
use lib.Dec.{leb}
use lib.ListN.{length, get_or, drop, drop_of_length-le}
use lib.Seq.{drop-cons}
use borrow.Author.Tests.{lt-leb}
use Rattle.rules.specs.Numbers.{token_size}
use Rattle.rules.specs.Token.{Place, empty, invalid, next, place_from, is_finished, is_valid, standing, is_whole}
use Rattle.rules.specs.Choice.{within}
use Rattle.rules.proofs.Choice.{pick_true, pick-false, test_case, within_bounds}
use Rattle.line.specs.declared.tokens.Place as tokens
use Rattle.line.specs.declared.tokens.Place.TheVariants.{Empty, Escape, Middle, Parameters, Intermediates, Valid, Invalid}
use Rattle.line.specs.contracts.tokens.Place.{the_type}
use Rattle.line.specs.TokenChanges.{place_of}

-- neither low to high
pub outside : (low high n : ℕ) → (low ≤ n → n ≤ high → ⊥) → within low high n ≡ false
outside low high n h =
    test_case (within low high n ≡ false) (within low high n)
    (λ t. let b = within_bounds low high n t in absurd (h b.0 b.1))
    (λ f. f)

-- neither of the last two places
pub unfinished : (p : tokens.Place) → (p ≡ Valid → ⊥) → (p ≡ Invalid → ⊥) → is_finished (place_of p) ≡ false
unfolding place_of is_finished
unfinished Empty v i = refl
unfinished Escape v i = refl
unfinished Middle v i = refl
unfinished Parameters v i = refl
unfinished Intermediates v i = refl
unfinished Valid v i = absurd (v refl)
unfinished Invalid v i = absurd (i refl)

pub same_valid : (p : tokens.Place) → sameb the_type p Valid ≡ is_valid (place_of p)
unfolding place_of is_valid
same_valid Empty = refl
same_valid Escape = refl
same_valid Middle = refl
same_valid Parameters = refl
same_valid Intermediates = refl
same_valid Valid = refl
same_valid Invalid = refl

module _ (token : List ℕ) where
  -- one byte more
  pub place_turn : (i : ℕ) (p q : Place) → i < length token → q ≡ next p (get_or token i 0) → place_from p (drop i token) ≡ place_from q (drop (i + 1) token)
  unfolding place_from
  place_turn i p q h step =
      ap (place_from p) (drop-cons token i 0 h)
      ∙ ap (λ k. place_from k (drop (suc i) token)) (sym step)
      ∙ ap (λ k. place_from q (drop k token)) (sym (add-one i))

  pub place_end : (i : ℕ) (p : Place) → length token ≤ i → place_from p (drop i token) ≡ p
  unfolding place_from
  place_end i p h = ap (place_from p) (drop_of_length-le token h)

  -- a token with all its bytes and no final one, and any other
  module _ (p : Place) (h : p ≡ place_from empty token) {size : ℕ} (e : token_size ≡ size) where
    cut : leb token_size (length token) && not (is_finished (place_from empty token)) ≡ leb size (length token) && not (is_finished p)
    cut i = leb (e i) (length token) && not (is_finished (sym h i))

    pub standing_cut : leb size (length token) && not (is_finished p) ≡ true → standing token ≡ invalid
    unfolding standing
    standing_cut t = pick_true _ _ (cut ∙ t)

    pub standing_kept : leb size (length token) && not (is_finished p) ≡ false → standing token ≡ p
    unfolding standing
    standing_kept t = pick-false _ _ (cut ∙ t) ∙ sym h

  -- a token of no bytes is not whole
  pub none_whole : {size : ℕ} → token_size ≡ size → 0 < size → length token ≡ 0 → is_whole token ≡ false
  unfolding is_whole is_finished
  none_whole {size} e h none =
      let short : leb size (length token) ≡ false = lt-leb size (length token) (omega arith) in
      ap is_finished (standing_kept empty (sym (place_end 0 empty (omega arith))) e (ap (λ b. b && true) short))
