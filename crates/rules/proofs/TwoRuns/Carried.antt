-- What is supposed of the fates of one run, carried over to the run of the twins.
use Prim.Native.Nat.{ℕ}
use mathlib.Core.Path.{◌≡◌, refl, sym, ap, ◌∙◌}
use mathlib.Core.Bool.{Bool, true, false, not, ◌&&◌, false≢true}
use mathlib.Core.List.{List, [], ◌∷◌, map, map-append}
use Rattle.rules.specs.Choice.{all_are, joined}
use Rattle.rules.specs.StartRead.{in_set}
use Rattle.rules.specs.State.{Terms, raised}
use Rattle.rules.specs.Turns.{Control, Fate, arrived, control, crowded_out, taken, tokened, cleared, lost, edited}
use Rattle.rules.specs.Calls.{Call, Answer, run}
use Rattle.rules.specs.TwoRuns.{changed_at, Placed, code_in, history, is_changed}
use Rattle.rules.specs.TwoRuns.{fate_test, in_band, unacted, unechoed, untokened, unset, unset_raised}
use Rattle.rules.proofs.Choice.{both, halves, all_unmap}
use Rattle.rules.proofs.Erasure.Maps.{map_fate, map_answer}
use Rattle.rules.proofs.TwoRuns.Twins.{Twin, apart, side_of, is_apart, side_chars}
use Rattle.rules.proofs.TwoRuns.Sides.{Side, side_placed}

-- all fates of a run
abbrev pub fates_of : {C : Type 0} → List (Answer C) → List (Fate C)
fates_of answers = joined (map (λ a. a.turn.fates) answers)

-- a test of fates, over any characters
abbrev pub Test : Type 1
Test = (C : Type 0) → (C → ℕ) → (C → Bool) → Fate C → Bool

abbrev pub over_twins : Test → {changed : ℕ → Bool} → (Twin changed → ℕ) → Fate (Twin changed) → Bool
over_twins test {changed} code = test (Twin changed) code is_apart

-- Fewer changed characters: what is asked of them is asked still.

fewer : (a b : Bool) → (a ≡ true → b ≡ true) → not b ≡ true → not a ≡ true
fewer true b h e = sym (ap not (h refl)) ∙ e
fewer false b h e = refl

fewer_where : (a b t : Bool) → (a ≡ true → b ≡ true) → not (b && t) ≡ true → not (a && t) ≡ true
fewer_where a b t h = fewer (a && t) (b && t) (λ e. let k = halves a t e in both (h k.0) k.1)

-- one law for all suppositions, since each is a test of a fate
module _ {C D : Type 0} (f : C → D)
    (arrived₁ : C → Bool → Bool) (control₁ : Control → C → Bool) (taken₁ : C → Terms → Bool) (token₁ : C → Bool)
    (arrived₂ : D → Bool → Bool) (control₂ : Control → D → Bool) (taken₂ : D → Terms → Bool) (token₂ : D → Bool)
    (on_arrived : (c : C) (band : Bool) → arrived₂ (f c) band ≡ true → arrived₁ c band ≡ true)
    (on_control : (purpose : Control) (c : C) → control₂ purpose (f c) ≡ true → control₁ purpose c ≡ true)
    (on_taken : (c : C) (terms : Terms) → taken₂ (f c) terms ≡ true → taken₁ c terms ≡ true)
    (on_token : (c : C) → token₂ (f c) ≡ true → token₁ c ≡ true) where
  fate_carried : (x : Fate C) → fate_test arrived₂ control₂ taken₂ token₂ (map_fate f x) ≡ true →
      fate_test arrived₁ control₁ taken₁ token₁ x ≡ true
  unfolding fate_test
  fate_carried (arrived c band) e = on_arrived c band e
  fate_carried (control purpose c) e = on_control purpose c e
  fate_carried (crowded_out c) e = refl
  fate_carried (taken c terms) e = on_taken c terms e
  fate_carried (tokened c) e = on_token c e
  fate_carried (cleared c) e = refl
  fate_carried (lost c) e = refl
  fate_carried (edited c) e = refl

module _ (cs ds : List (Call ℕ)) (choose : ℕ → ℕ → ℕ) where
  -- a changed twin has a changed place
  place_changed : (c : Twin (changed_at cs ds)) → is_apart c ≡ true → is_changed cs ds (side_of choose c) ≡ true
  unfolding is_changed
  place_changed (Twin.both p) e = absurd (false≢true e)
  place_changed (apart place m n c h) e = c

  -- a test of a side's fates gives the test of the twins'
  abbrev pub Carries : Test → Type 0
  Carries test = (x : Fate (Twin (changed_at cs ds))) →
      test Placed code_in (is_changed cs ds) (map_fate (side_of choose) x) ≡ true →
      over_twins test (λ c. code_in (side_of choose c)) x ≡ true

  spares : (t : Bool) (c : Twin (changed_at cs ds)) → not (is_changed cs ds (side_of choose c) && t) ≡ true → not (is_apart c && t) ≡ true
  spares t c = fewer_where (is_apart c) (is_changed cs ds (side_of choose c)) t (place_changed c)

  pub carry_in_band : Carries (λ C. in_band)
  unfolding in_band
  carry_in_band =
      fate_carried (side_of choose) _ _ _ _ _ _ _ _ (λ c band. spares band c) (λ purpose c e. e) (λ c terms e. e) (λ c e. e)

  pub carry_unacted : Carries (λ C. unacted)
  unfolding unacted
  carry_unacted =
      fate_carried (side_of choose) _ _ _ _ _ _ _ _ (λ c band e. e) (λ purpose. spares _) (λ c terms e. e) (λ c e. e)

  pub carry_untokened : Carries (λ C. untokened)
  unfolding untokened
  carry_untokened =
      fate_carried (side_of choose) _ _ _ _ _ _ _ _ (λ c band e. e) (λ purpose c e. e) (λ c terms e. e) (λ c. fewer _ _ (place_changed c))

  -- what is asked of a read that takes a changed key
  carry_taken : (test : ℕ → Terms → Bool) →
      Carries (λ C code changed. fate_test (λ c band. true) (λ purpose c. true) (λ c terms. not (changed c && test (code c) terms)) (λ c. true))
  carry_taken test =
      fate_carried (side_of choose) _ _ _ _ _ _ _ _ (λ c band e. e) (λ purpose c e. e) (λ c terms. spares _ c) (λ c e. e)

  pub carry_unechoed : Carries (λ C. unechoed)
  unfolding unechoed
  carry_unechoed = carry_taken (λ n terms. terms.echoes)

  pub carry_unset : Carries (λ C. unset)
  unfolding unset
  carry_unset = carry_taken (λ n terms. in_set terms.set n)

  pub carry_unset_raised : Carries (λ C. unset_raised)
  unfolding unset_raised
  carry_unset_raised = carry_taken (λ n terms. in_set terms.set (raised n))

-- The fates of a run.

fates_mapped : {C D : Type 0} (f : C → D) (answers : List (Answer C)) →
    fates_of (map (map_answer f) answers) ≡ map (map_fate f) (fates_of answers)
unfolding joined
fates_mapped f [] = refl
fates_mapped f (a ∷ answers) = rw (fates_mapped f answers, map-append)

module _ {changed : ℕ → Bool} {choose : ℕ → ℕ → ℕ} {calls : List (Call (Twin changed))} {cs : List (Call ℕ)} (side : Side choose calls cs) where
  -- what holds of the fates of a plain list's history holds of its twins'
  pub history_carried : (p : Fate (Twin changed) → Bool) (q : Fate Placed → Bool) →
      ((x : Fate (Twin changed)) → q (map_fate (side_of choose) x) ≡ true → p x ≡ true) →
      all_are q (history cs) ≡ true → all_are p (fates_of (run (side_chars choose) calls)) ≡ true
  unfolding history
  history_carried p q carry e =
      all_unmap p q (map_fate (side_of choose)) carry _ (rw (← side_placed side, fates_mapped) at e)
