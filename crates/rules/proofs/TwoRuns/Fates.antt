-- What is known of a cell whose fate spared changed keys.
use Prim.Native.Nat.{ℕ}
use mathlib.Core.Path.{◌≡◌, refl, sym, ◌∙◌}
use mathlib.Core.Bool.{Bool, true, false, false≢true}
use mathlib.Core.List.{[], ◌∷◌}
use borrow.Author.Tests.{not-true}
use Rattle.rules.specs.State.{Terms}
use Rattle.rules.specs.StartRead.{in_set}
use Rattle.rules.specs.Turns.{Fate, taken, tokened}
use Rattle.rules.specs.TwoRuns.{code_in, raised_in, fate_test, unechoed, untokened, unset, unset_raised}
use Rattle.rules.proofs.Choice.{quarters, all_cons}
use Rattle.rules.proofs.TwoRuns.Twins.{Twin, both, apart, is_both, is_apart, raise, code₁, code₂, Settled, spared, Spared}

module _ {changed : ℕ → Bool} where
  -- in one run
  module _ (code : Twin changed → ℕ) where
    record Sparing (f : Fate (Twin changed)) : Type 0 where
      unechoed : unechoed code is_apart f ≡ true
      untokened : untokened code is_apart f ≡ true
      unset : unset code is_apart f ≡ true
      unset_raised : unset_raised code is_apart f ≡ true

    sparing : (f : Fate (Twin changed)) → Spared code (f ∷ []) → Sparing f
    unfolding spared
    sparing f e =
        let k =
        quarters (unechoed code is_apart f) (untokened code is_apart f) (unset code is_apart f) (unset_raised code is_apart f)
        (all_cons (spared code) f [] e).0 in
        record { unechoed = k.0; untokened = k.1; unset = k.2; unset_raised = k.3 }

    pub tokened_both : (c : Twin changed) → Spared code (tokened c ∷ []) → is_both c ≡ true
    unfolding untokened fate_test
    tokened_both (both p) e = refl
    tokened_both (apart place m n d h) e = (sparing (tokened (apart place m n d h)) e).untokened

  -- a read with these terms may take the cell: it shows no changed key, and none is in its set
  pub record Safe (terms : Terms) (c : Twin changed) : Type 0 where
    pub shown : terms.echoes ≡ true → is_both c ≡ true
    pub unset : Settled (in_set terms.set) c

  safe_both : (terms : Terms) (c : Twin changed) → is_both c ≡ true → Safe terms c
  safe_both terms c e =
      let never : is_both c ≡ false → ⊥ = λ a. false≢true (sym a ∙ e) in
      record { shown = λ h. e; unset = record { first = λ a. absurd (never a); second = λ a. absurd (never a) } }

  -- the cell that a step takes, and its raised form
  pub taken_safe : (c : Twin changed) (terms : Terms) → Spared code₁ (taken c terms ∷ []) → Spared code₂ (taken c terms ∷ []) →
      Safe terms c × Safe terms (raise c)
  unfolding unechoed unset unset_raised fate_test code_in
  taken_safe (both p) terms x y = (safe_both terms (both p) refl, safe_both terms (both (raised_in p)) refl)
  taken_safe (apart place m n d h) terms x y =
      let first = sparing code₁ (taken (apart place m n d h) terms) x in
      let second = sparing code₂ (taken (apart place m n d h) terms) y in
      let shown : terms.echoes ≡ true → false ≡ true = λ e. sym (not-true terms.echoes first.unechoed) ∙ e in (
        record { shown = shown; unset = record { first = λ a. not-true _ first.unset; second = λ a. not-true _ second.unset } },
        record { shown = shown; unset = record { first = λ a. not-true _ first.unset_raised; second = λ a. not-true _ second.unset_raised } },
      )
