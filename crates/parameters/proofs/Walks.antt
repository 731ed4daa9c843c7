-- A test of every parameter of a list, by a walk of it.
use Rattle.std.proofs.Common.{◌≡◌, refl, sym, ap, ap₂, subst, ◌∙◌, ℕ, ◌<◌, length, drop, Bool, ◌&&◌, List, [], ◌∷◌, map, None, Some}
use native.Mathlib.Omega.{arith}
use denote.Param.Members.{Mut, Called}
use Rattle.std.specs.Iterator.{ChecksAll}
use Rattle.std.specs.List.{list_all}
use Rattle.std.proofs.lemmas.Iterator.{YieldsList}
use Rattle.std.proofs.lemmas.Iterator.Search.{all_from_yields_List}
use Rattle.std.proofs.lemmas.Iterator.Splits.{YieldsList-from_shown_while}
use Rattle.rules.specs.Choice.{all_are}
use Rattle.rules.specs.Messages.Parameters.{cut}
use Rattle.parameters.specs.declared.Parameter.{Parameter}
use Rattle.parameters.specs.declared.each.Parameters.{Parameters}
use Rattle.parameters.specs.Lists.{ParameterIs, shape_of, parameter_at}
use Rattle.parameters.specs.Walks.{parameter_steps}
use Rattle.parameters.proofs.Walk.{cut-here, cut_end}
use Rattle.parameters.proofs.Shapes.{next_inside}

-- the tests of the elements, all true
all_tests : {A : Type 0} (test : A → Bool) (xs : List A) → list_all (λ t. t) (map test xs) ≡ all_are test xs
unfolding all_are
all_tests test [] = refl
all_tests test (x ∷ xs) = ap (λ t. test x && t) (all_tests test xs)

-- Of each parameter that the walk yields, `passes` says what `test` says of its bytes.
abbrev pub Agree : ℕ → List ℕ → (Parameter → Bool) → (List ℕ → Bool) → Type 0
Agree kind s passes test = (at : ℕ) (p : Parameter) → at < length s → ParameterIs kind at s p → passes p ≡ test (parameter_at kind at s)

module _ (kind : ℕ) (s : List ℕ) (passes : Parameter → Bool) (test : List ℕ → Bool) (agree : Agree kind s passes test) where
  abbrev tests_from : ℕ → List Bool
  tests_from at = map test (cut (shape_of kind) 0 (drop at s))

  abbrev Walks : Parameters → Type 0
  Walks w = (w.kind ≡ kind) × (w.list.now ≡ s)

  none_left : (w v : Parameters) → Walks w → parameter_steps w None v → length (tests_from w.at) ≡ 0
  none_left w v of step =
      let same = ap (λ l. length l) of.1 in
      ap (λ ps. length (map test ps)) (cut_end (shape_of kind) w.at s (omega (arith, step.2.0)))

  one_first : (w : Parameters) (p : Parameter) (v : Parameters) → Walks w → parameter_steps w (Some p) v →
      Walks v × (tests_from w.at ≡ passes p ∷ tests_from v.at)
  unfolding parameter_at
  one_first w p v of step =
      let same = ap (λ l. length l) of.1 in
      let inside : w.at < length s = omega (arith, step.2.0) in
      let is = subst (λ l. ParameterIs kind w.at l p) of.1 (subst (λ n. ParameterIs n w.at w.list.now p) of.0 step.2.1) in (
        (step.0 ∙ of.0, step.1 ∙ of.1),
        ap (map test) (cut-here (shape_of kind) w.at s inside) ∙
            ap₂ ◌∷◌ (sym (agree w.at p inside is)) (ap tests_from (sym (step.2.2 ∙ is.behind ∙ next_inside kind w.at s inside))),
      )

  walk_tests : {w : Parameters} {at : ℕ} → Walks w → w.at ≡ at → YieldsList parameter_steps passes w (tests_from at)
  walk_tests {w} of a =
      subst (λ n. YieldsList parameter_steps passes w (tests_from n)) a
      (YieldsList-from_shown_while parameter_steps passes (λ v. tests_from v.at) Walks none_left one_first w of)

  -- what `all` answers, where its closure answers as `passes` does
  pub walk_all : {F : Type 0} {g : Mut F (Parameter × Unit {0}) Bool} {w u : Parameters} {at : ℕ} {f : F} {r : Bool} →
      w.kind ≡ kind → w.list.now ≡ s → w.at ≡ at → ChecksAll parameter_steps g w f r u →
      ((p : Parameter) (b : Bool) (q : F) → Called g f (p, tt) b q → (q ≡ f) × (b ≡ passes p)) → r ≡ all_are test (cut (shape_of kind) 0 (drop at s))
  walk_all {u = u} {f = f} {r = r} k l a checks calls =
      all_from_yields_List (λ t. t) u f r checks (walk_tests (k, l) a) calls ∙ all_tests test _
