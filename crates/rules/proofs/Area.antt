-- Bytes put into an area: some and then more, and all of them where there is room.
use mathlib.Core.Path.{◌≡◌, refl, sym, ap, ◌∙◌}
use Prim.Native.Nat.{ℕ, ◌+◌, ◌≤◌}
use native.Mathlib.Nat.{add-zero}
use native.Mathlib.Numerals.{add-one}
use native.Mathlib.Omega.{arith}
use mathlib.Core.List.{List, [], ◌∷◌, ◌++◌}
use lib.ListN.{length, set, length-set}
use lib.Seq.{sets, sets-eq}
use borrow.Author.Tests.{lt-ltb}
use Rattle.rules.specs.Calls.{area_after}
use Rattle.rules.proofs.Choice.{pick_true}
use Rattle.rules.specs.Area.{Spot, put, puts, spot}

pub puts_append : (xs ys : List ℕ) (s : Spot) → puts (xs ++ ys) s ≡ puts ys (puts xs s)
unfolding puts
puts_append [] ys s = refl
puts_append (x ∷ xs) ys s = puts_append xs ys (put x s)

-- where there is room, every byte is stored
pub puts_room : (bs area : List ℕ) (at : ℕ) → at + length bs ≤ length area →
    puts bs (spot area at) ≡ spot (sets area at bs) (at + length bs)
unfolding puts put
puts_room [] area at h = ap (spot area) (sym (add-zero at))
puts_room (b ∷ bs) area at h =
    let more : at + 1 + length bs ≤ length (set area at b) = omega (arith, length-set area at b) in
    let ends : at + 1 + length bs ≡ at + length (b ∷ bs) = omega arith in
    ap (puts bs) (pick_true _ _ (lt-ltb at (length area) (omega arith)))
    ∙ puts_room bs (set area at b) (at + 1) more
    ∙ (λ i. spot (sets (set area at b) (add-one at i) bs) (ends i))

-- and from the front on the area is the bytes before what stood behind them
pub puts_front : (bs area : List ℕ) → length bs ≤ length area → puts bs (spot area 0) ≡ spot (area_after bs area) (length bs)
unfolding area_after
puts_front bs area h =
    let room : 0 + length bs ≤ length area = omega arith in
    let none : 0 + length bs ≡ length bs = omega arith in
    puts_room bs area 0 room ∙ ap (λ a. spot a (0 + length bs)) (sets-eq bs area 0 room) ∙ (rw none)
