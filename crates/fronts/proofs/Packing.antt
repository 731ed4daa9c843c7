-- Fields of FLAGS in one number: the first of them, and those above it.
use Rattle.std.proofs.Common.{◌≡◌, refl, sym, ap, subst, arith, ℕ, ◌+◌, ◌-◌, ◌*◌, ◌<◌, ◌≤◌, List, [], ◌∷◌, length, take, drop}
use Rattle.std.proofs.lemmas.List.{take_all}
use lib.ListN.{get_or}
use Rattle.std.proofs.Math.Nat.{mul-le-mul_left}
use lib.Dec.{ltb}
use borrow.Author.Tests.{ltb-true}
use Rattle.rules.proofs.Choice.{all_cons}
use Rattle.fronts.specs.Flags.{packed, Packs}

abbrev above : List (ℕ × ℕ) → List (ℕ × ℕ)
above fs = take (length fs - 1) (drop 1 fs)

all_above : (f : ℕ × ℕ) (fs : List (ℕ × ℕ)) → fs ≡ above (f ∷ fs)
all_above f fs = sym (take_all (length (f ∷ fs) - 1) fs (omega arith))

pub first_packed : (fs : List (ℕ × ℕ)) → 1 ≤ length fs →
    (get_or fs 0 (0, 0)).0 + (get_or fs 0 (0, 0)).1 * packed (above fs) ≡ packed fs
unfolding packed
first_packed [] h = absurd (omega arith)
first_packed (f ∷ fs) h = ap (λ r. f.0 + f.1 * packed r) (sym (all_above f fs))

pub none_packed : (fs : List (ℕ × ℕ)) → length fs < 1 → 0 ≡ packed fs
unfolding packed
none_packed [] h = refl
none_packed (f ∷ fs) h = absurd (omega arith)

pub packs_above : (fs : List (ℕ × ℕ)) → 1 ≤ length fs → Packs fs → Packs (above fs)
unfolding packed
packs_above [] h p = absurd (omega arith)
packs_above (f ∷ fs) h p =
    let parts = all_cons (λ f. ltb 0 f.1) f fs p.filled in
    let some = mul-le-mul_left (packed fs) (ltb-true 0 f.1 parts.0) in
    subst Packs (all_above f fs) (record { small = omega (arith, p.small, some); filled = parts.1 })
