-- Laws of mapped lists and choices.
use mathlib.Core.Path.{◌≡◌, refl, ap}
use Prim.Native.Nat.{ℕ, zero, suc}
use mathlib.Core.Bool.{Bool, true, false}
use mathlib.Core.List.{List, [], ◌∷◌, map, map-map}
use lib.ListN.{take, drop}
use Rattle.rules.specs.Choice.{pick, is_empty}
use Rattle.rules.specs.State.{Characters}
use Rattle.rules.proofs.Erasure.Maps.{Maps}

module _ {A B : Type 0} (g : A → B) where
  pub map-take : (n : ℕ) (xs : List A) → map g (take n xs) ≡ take n (map g xs)
  map-take zero xs = refl
  map-take (suc n) [] = refl
  map-take (suc n) (x ∷ xs) = ap {B = List B} (λ ys. g x ∷ ys) (map-take n xs)

  pub map-drop : (n : ℕ) (xs : List A) → map g (drop n xs) ≡ drop n (map g xs)
  map-drop zero xs = refl
  map-drop (suc n) [] = refl
  map-drop (suc n) (x ∷ xs) = map-drop n xs

  pub is_empty_map : (xs : List A) → is_empty (map g xs) ≡ is_empty xs
  unfolding is_empty
  is_empty_map [] = refl
  is_empty_map (x ∷ xs) = refl

  pub map_pick : (t : Bool) (a b : A) → g (pick t a b) ≡ pick t (g a) (g b)
  unfolding pick
  map_pick true a b = refl
  map_pick false a b = refl

module _ {C D : Type 0} {f : C → D} {cs : Characters C} {ds : Characters D} (m : Maps f cs ds) where
  -- the map leaves codes as they are
  pub codes_same : (xs : List C) → map ds.code (map f xs) ≡ map cs.code xs
  codes_same xs = simp (map-map, m.code)
