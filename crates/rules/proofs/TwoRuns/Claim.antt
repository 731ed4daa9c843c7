-- Demand 3: two runs that differ only in hidden keys look the same.
use Prim.Native.Nat.{ℕ}
use mathlib.Core.Path.{◌≡◌, refl, sym, ap, ◌∙◌}
use mathlib.Core.Bool.{Bool, true, not}
use mathlib.Core.List.{List, map}
use native.Mathlib.Omega.{arith}
use lib.ListN.{get_or}
use Rattle.rules.specs.Choice.{all_are}
use Rattle.rules.specs.Calls.{Call, run}
use Rattle.rules.specs.TwoRuns.{alike, changed_at, each_changed, both_printing, same_class, Placed, code_in, history, is_changed}
use Rattle.rules.specs.TwoRuns.{in_band, unacted, unechoed, untokened, unset, unset_raised, Supposition, in_both, suppositions, supposed}
use Rattle.rules.specs.TwoRuns.{seen, LooksTheSame, Demand3, Demand3Weak}
use Rattle.rules.proofs.Choice.{halves, all_at, all_both}
use Rattle.rules.proofs.TwoRuns.Twins.{Twin, side_of, is_apart, side_chars, spared}
use Rattle.rules.proofs.TwoRuns.Bands.{in_band_passed, unacted_passed}
use Rattle.rules.proofs.TwoRuns.Calls.{Heeded, Supposed}
use Rattle.rules.proofs.TwoRuns.Pairing.{twins}
use Rattle.rules.proofs.TwoRuns.Sides.{Side, side_codes}
use Rattle.rules.proofs.TwoRuns.Carried.{fates_of, Test, over_twins, Carries, history_carried, carry_in_band, carry_unacted}
use Rattle.rules.proofs.TwoRuns.Carried.{carry_unechoed, carry_untokened, carry_unset, carry_unset_raised}
use Rattle.rules.proofs.TwoRuns.Runs.{agree_run}

-- The suppositions, one by one.

-- of one of the two runs
record InOne (arrival : Supposition) (cs ds one : List (Call ℕ)) : Type 0 where
  arrived : all_are (arrival code_in (is_changed cs ds)) (history one) ≡ true
  unechoed : all_are (unechoed code_in (is_changed cs ds)) (history one) ≡ true
  untokened : all_are (untokened code_in (is_changed cs ds)) (history one) ≡ true
  unset : all_are (unset code_in (is_changed cs ds)) (history one) ≡ true
  unset_raised : all_are (unset_raised code_in (is_changed cs ds)) (history one) ≡ true

record Suppositions (arrival : Supposition) (cs ds : List (Call ℕ)) : Type 0 where
  same : alike cs ds ≡ true
  printing : each_changed both_printing cs ds ≡ true
  class : each_changed same_class cs ds ≡ true
  first : InOne arrival cs ds cs
  second : InOne arrival cs ds ds

one_by_one : (arrival : Supposition) (cs ds : List (Call ℕ)) → supposed arrival cs ds ≡ true → Suppositions arrival cs ds
unfolding supposed suppositions in_both
one_by_one arrival cs ds e =
    let at : (k : ℕ) → get_or (suppositions arrival cs ds) k true ≡ true = all_at (λ b. b) (suppositions arrival cs ds) true e refl in
    let h₃ = halves _ _ (at 3) in
    let h₄ = halves _ _ (at 4) in
    let h₅ = halves _ _ (at 5) in
    let h₆ = halves _ _ (at 6) in
    let h₇ = halves _ _ (at 7) in
    record {
      same = at 0;
      printing = at 1;
      class = at 2;
      first = record { arrived = h₃.0; unechoed = h₄.0; untokened = h₅.0; unset = h₆.0; unset_raised = h₇.0 };
      second = record { arrived = h₃.1; unechoed = h₄.1; untokened = h₅.1; unset = h₆.1; unset_raised = h₇.1 };
    }

-- From a supposition of a key's arrival that carries over to twins, and that has rule 2 pass a changed key over.
module _ (arrival : Test)
    (carries : (cs ds : List (Call ℕ)) (choose : ℕ → ℕ → ℕ) → Carries cs ds choose arrival)
    (heeded : (changed : ℕ → Bool) → Heeded (over_twins arrival {changed = changed})) where
  -- the fates of one side of the twins are as supposed
  side_supposed : (cs ds : List (Call ℕ)) {choose : ℕ → ℕ → ℕ} {calls : List (Call (Twin (changed_at cs ds)))} {one : List (Call ℕ)} →
      Side choose calls one → InOne (arrival Placed) cs ds one →
      Supposed (over_twins arrival) (λ c. code_in (side_of choose c)) (fates_of (run (side_chars choose) calls))
  unfolding spared
  side_supposed cs ds {choose} {calls} side h =
      let carried = history_carried side in
      let fates = fates_of (run (side_chars choose) calls) in
      record {
        arrived = carried _ _ (carries cs ds choose) h.arrived;
        spared =
            all_both _ _ fates
            (all_both _ _ fates
            (all_both _ _ fates
            (carried _ _ (carry_unechoed cs ds choose) h.unechoed)
            (carried _ _ (carry_untokened cs ds choose) h.untokened))
            (carried _ _ (carry_unset cs ds choose) h.unset))
            (carried _ _ (carry_unset_raised cs ds choose) h.unset_raised);
      }

  looks_same_lem : (cs ds : List (Call ℕ)) → supposed (arrival Placed) cs ds ≡ true → LooksTheSame cs ds
  looks_same_lem cs ds e =
      let h = one_by_one (arrival Placed) cs ds e in
      let t =
      twins (changed_at cs ds) 0 cs ds (λ at k q. let p : k ≡ at = omega arith in ap (changed_at cs ds) p)
      h.same h.printing h.class in
      let first : Side (λ m n. m) t.calls cs = record { raises = λ m n. refl; places = t.first } in
      let second : Side (λ m n. n) t.calls ds = record { raises = λ m n. refl; places = t.second } in
      let agree =
      agree_run (over_twins arrival) (heeded (changed_at cs ds)) t.calls
      (side_supposed cs ds first h.first) (side_supposed cs ds second h.second) in
      sym (ap (map seen) (side_codes first)) ∙ agree ∙ ap (map seen) (side_codes second)

-- from the weaker supposition: arrival rule 2 does not act on a changed key
pub demand3_weak : Demand3Weak
demand3_weak = looks_same_lem (λ C. unacted) carry_unacted (λ changed chars c s a. unacted_passed chars is_apart c s (ap not a))

-- the demand's own words: a changed key is not out-of-band when it arrives
pub demand3 : Demand3
demand3 = looks_same_lem (λ C. in_band) carry_in_band (λ changed chars c s a b. in_band_passed chars is_apart c s (ap not a))
