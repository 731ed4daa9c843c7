-- Agreement of two runs over a list of calls: each answer looks the same.
use Prim.Native.Nat.{ℕ}
use mathlib.Core.Path.{◌≡◌, refl, subst}
use mathlib.Core.Bool.{Bool}
use mathlib.Core.List.{List, [], ◌∷◌, ◌++◌, map}
use Rattle.rules.specs.Choice.{joined}
use Rattle.rules.specs.State.{State, fresh}
use Rattle.rules.specs.Turns.{Fate}
use Rattle.rules.specs.Calls.{Call, answer, run_from, run}
use Rattle.rules.specs.TwoRuns.{seen}
use Rattle.rules.proofs.Choice.{all_halves}
use Rattle.rules.proofs.Erasure.Maps.{map_answer}
use Rattle.rules.proofs.TwoRuns.Twins.{Twin, code₁, code₂, first_chars, second_chars, Level, spared}
use Rattle.rules.proofs.TwoRuns.Calls.{fresh_level, Heeded, Supposed, agree_answer}
use Rattle.rules.proofs.TwoRuns.Carried.{fates_of}
use Rattle.rules.proofs.TwoRuns.Looks.{seen_same}

module _ {changed : ℕ → Bool} (arrival : (Twin changed → ℕ) → Fate (Twin changed) → Bool) (heeded : Heeded arrival) where
  supposed_split : (code : Twin changed → ℕ) (fs gs : List (Fate (Twin changed))) → Supposed arrival code (fs ++ gs) →
      Supposed arrival code fs × Supposed arrival code gs
  supposed_split code fs gs x =
      let a = all_halves (arrival code) fs gs x.arrived in
      let b = all_halves (spared code) fs gs x.spared in
      (record { arrived = a.0; spared = b.0 }, record { arrived = a.1; spared = b.1 })

  agree_run_from : (calls : List (Call (Twin changed))) (s : State (Twin changed)) → Level s →
      Supposed arrival code₁ (fates_of (run_from first_chars s calls)) →
      Supposed arrival code₂ (fates_of (run_from second_chars s calls)) →
      map seen (map (map_answer code₁) (run_from first_chars s calls)) ≡ map seen (map (map_answer code₂) (run_from second_chars s calls))
  unfolding run_from joined
  agree_run_from [] s l x y = refl
  agree_run_from (c ∷ calls) s l x y =
      let a = answer first_chars c s in
      let b = answer second_chars c s in
      let p = supposed_split code₁ a.turn.fates (fates_of (run_from first_chars a.turn.state calls)) x in
      let q = supposed_split code₂ b.turn.fates (fates_of (run_from second_chars b.turn.state calls)) y in
      let h = agree_answer arrival heeded c s l p.0 q.0 in
      let rest =
      subst
      (λ t.
      Supposed arrival code₂ (fates_of (run_from second_chars t calls)) →
      map seen (map (map_answer code₁) (run_from first_chars a.turn.state calls)) ≡
      map seen (map (map_answer code₂) (run_from second_chars t calls)))
      h.1.state
      (agree_run_from calls a.turn.state h.1.level p.1) in
      λ i. seen_same h.0 h.1 i ∷ rest q.1 i

  pub agree_run : (calls : List (Call (Twin changed))) → Supposed arrival code₁ (fates_of (run first_chars calls)) →
      Supposed arrival code₂ (fates_of (run second_chars calls)) →
      map seen (map (map_answer code₁) (run first_chars calls)) ≡ map seen (map (map_answer code₂) (run second_chars calls))
  unfolding run
  agree_run calls = agree_run_from calls fresh fresh_level
