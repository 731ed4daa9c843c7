-- A masked attribute, as the code computes it.
use mathlib.Core.Path.{◌≡◌, ap, ap₂, ◌∙◌}
use Prim.Native.Nat.{ℕ, zero, suc, ◌+◌, ◌*◌, ◌-◌, ◌/◌, ◌%◌, ◌^◌, ◌<◌, min, max}
use native.Mathlib.Nat.{suc-add, pow-suc, mod-one}
use native.Mathlib.Omega.{arith}
use lib.Arith.{mod-mul}
use lib.Bits.{bit_and, bit_or, and_step, or_step, and_mask}
use lib.Dec.{eqb}
use lib.Pow.{pow_pos}
use borrow.Author.Tests.{eqb-true, eqb-false}
use Rattle.rules.specs.Choice.{pick}
use Rattle.rules.specs.Characteristics.{masked}
use Rattle.rules.proofs.Choice.{pick_case}

-- the old bits where `kept` has 1, the new ones where the mask has 1
abbrev mixed : ℕ → ℕ → ℕ → ℕ → ℕ
mixed kept mask old new = bit_or (bit_and old kept) (bit_and new mask)

-- the lowest bit, where one of the two has 1
lowest : (mask old new : ℕ) → max (min (old % 2) (1 - mask % 2)) (min (new % 2) (mask % 2)) ≡ pick (eqb (mask % 2) 1) (new % 2) (old % 2)
lowest mask old new =
    pick_case (λ b. max (min (old % 2) (1 - mask % 2)) (min (new % 2) (mask % 2)) ≡ b) (eqb (mask % 2) 1)
    (λ y. omega (arith, eqb-true (mask % 2) 1 y)) (λ n. let no = eqb-false (mask % 2) 1 n in omega arith)

and_half : (a b : ℕ) → bit_and a b / 2 ≡ bit_and (a / 2) (b / 2)
and_half a b = omega (arith, and_step a b)

mixed_half : (kept mask old new : ℕ) → mixed kept mask old new / 2 ≡ mixed (kept / 2) (mask / 2) (old / 2) (new / 2)
mixed_half kept mask old new =
    let b = or_step (bit_and old kept) (bit_and new mask) in
    let e : mixed kept mask old new / 2 ≡ bit_or (bit_and old kept / 2) (bit_and new mask / 2) = omega arith in
    e ∙ ap₂ bit_or (and_half old kept) (and_half new mask)

mixed_bit : (kept mask old new : ℕ) → mixed kept mask old new % 2 ≡ max (min (old % 2) (kept % 2)) (min (new % 2) (mask % 2))
mixed_bit kept mask old new =
    omega (arith, and_step old kept, and_step new mask, or_step (bit_and old kept) (bit_and new mask))

masked-mixed : (width more mask old new : ℕ) → mask < 2 ^ (width + more) →
    mixed (2 ^ (width + more) - 1 - mask) mask old new % 2 ^ width ≡ masked width mask old new
unfolding masked
masked-mixed zero more mask old new h = mod-one _
masked-mixed (suc width) more mask old new h =
    let half = 2 ^ (width + more) in
    let kept = 2 ^ (suc width + more) - 1 - mask in
    let double : 2 ^ (suc width + more) ≡ half * 2 = ap (λ n. 2 ^ n) (suc-add width more) ∙ pow-suc 2 (width + more) in
    let rest = masked-mixed width more (mask / 2) (old / 2) (new / 2) (omega arith) in
    let k : kept / 2 ≡ half - 1 - mask / 2 = omega arith in
    let b : kept % 2 ≡ 1 - mask % 2 = omega arith in
    let high = mixed_half kept mask old new ∙ ap (λ n. mixed n (mask / 2) (old / 2) (new / 2)) k in
    let low = mixed_bit kept mask old new ∙ ap (λ n. max (min (old % 2) n) (min (new % 2) (mask % 2))) b ∙ lowest mask old new in
    let spans = mod-mul (mixed kept mask old new) {m = 2 ^ width} {c = 2} (pow_pos width) (omega arith) in
    let above = ap (λ n. n % 2 ^ width) high ∙ rest in
    ap (λ n. mixed kept mask old new % n) (pow-suc 2 width) ∙ omega arith

-- seven bits of a byte
pub masked_byte : (mask old new : ℕ) → mask < 256 → bit_and (mixed (255 - mask) mask old new) 127 ≡ masked 7 mask old new
masked_byte mask old new h = and_mask (mixed (255 - mask) mask old new) 7 ∙ masked-mixed 7 1 mask old new h
