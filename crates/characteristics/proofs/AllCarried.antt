-- Whether all parameters of a list pass a test.
use mathlib.Core.Path.{◌≡◌, refl, ap}
use Prim.Native.Nat.{ℕ}
use mathlib.Core.Bool.{Bool, ◌&&◌}
use mathlib.Core.List.{List, [], ◌∷◌, map}
use Rattle.rules.specs.Choice.{all_are}
use Rattle.rules.specs.Messages.Parameters.{selector}
use Rattle.rules.specs.Characteristics.{is_carried}

abbrev pub all_carried : List (List ℕ) → Bool
all_carried ps = all_are (λ p. is_carried (selector p)) ps

module _ {A : Type 0} where
  pub all_mapped : {B : Type 0} (test : B → Bool) (f : A → B) (xs : List A) → all_are (λ x. test (f x)) xs ≡ all_are test (map f xs)
  unfolding all_are
  all_mapped test f [] = refl
  all_mapped test f (x ∷ xs) = ap (λ t. test (f x) && t) (all_mapped test f xs)
