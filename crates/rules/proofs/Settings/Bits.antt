-- A flag as a bit and back, and so many of them as a number.
use mathlib.Core.Path.{◌≡◌, refl, sym, ap, ◌∙◌}
use Prim.Native.Nat.{ℕ, zero, suc, ◌+◌, ◌*◌, ◌/◌, ◌%◌, ◌^◌, ◌<◌}
use native.Mathlib.Nat.{two-pow-succ, div-one}
use native.Mathlib.Omega.{arith}
use mathlib.Core.Bool.{Bool, true, false}
use lib.Pow.{shr-shr}
use borrow.Author.Tests.{eqb-false}
use Rattle.rules.specs.Choice.{pick, is_on, bit}
use Rattle.rules.specs.Messages.Parameters.{one_bit}
use Rattle.rules.specs.Settings.{bits_where}
use Rattle.rules.proofs.Choice.{test_case}

-- One flag.
pub bit_back : (n : ℕ) → n < one_bit → bit (is_on n) ≡ n
unfolding bit pick
bit_back zero h = refl
bit_back (suc zero) h = refl
bit_back (suc (suc n)) h = absurd (omega arith)

pub on_bit : (b : Bool) → is_on (bit b) ≡ b
unfolding bit pick
on_bit true = refl
on_bit false = refl

pub bit_under : (b : Bool) → bit b < one_bit
unfolding bit pick
bit_under true = omega arith
bit_under false = omega arith

-- The bits of a number: the first is its rest by 2, the others are those of its half.
abbrev pub is_set : ℕ → ℕ → Bool
is_set n c = is_on (n / 2 ^ c % 2)

first_set : (n : ℕ) → is_set n 0 ≡ is_on (n % 2)
first_set n = ap (λ k. is_on (k % 2)) (div-one n)

later_set : (n c : ℕ) → is_set n (suc c) ≡ is_set (n / 2) c
later_set n c = let e : suc c ≡ 1 + c = omega arith in ap (λ k. is_on (k % 2)) (ap (λ k. n / 2 ^ k) e ∙ sym (shr-shr n 1 c))

-- the bits of a number make it up again
pub bits_back : (width n : ℕ) (test : ℕ → Bool) → n < 2 ^ width → ((c : ℕ) → c < width → test c ≡ is_set n c) → bits_where width test ≡ n
unfolding bits_where
bits_back zero n test h agree = omega arith
bits_back (suc width) n test h agree =
    let double = two-pow-succ width in
    let low = ap bit (agree 0 (omega arith) ∙ first_set n) ∙ bit_back (n % 2) (omega arith) in
    let high = bits_back width (n / 2) (λ c. test (suc c)) (omega arith) (λ c k. agree (suc c) (omega arith) ∙ later_set n c) in
    omega arith

pub bits_under : (width : ℕ) (test : ℕ → Bool) → bits_where width test < 2 ^ width
unfolding bits_where
bits_under zero test = omega arith
bits_under (suc width) test =
    let double = two-pow-succ width in
    let low = bit_under (test 0) in
    let high = bits_under width (λ c. test (suc c)) in
    omega arith

-- and what is made up has the bits that were asked for
pub bits_set : (width : ℕ) (test : ℕ → Bool) (c : ℕ) → c < width → is_set (bits_where width test) c ≡ test c
unfolding bits_where
bits_set zero test c h = absurd (omega arith)
bits_set (suc width) test zero h =
    let high = bits_where width (λ c. test (suc c)) in
    let under = bit_under (test 0) in
    let low : (bit (test 0) + 2 * high) % 2 ≡ bit (test 0) = omega arith in
    first_set (bit (test 0) + 2 * high) ∙ ap is_on low ∙ on_bit (test 0)
bits_set (suc width) test (suc c) h =
    let high = bits_where width (λ c. test (suc c)) in
    let under = bit_under (test 0) in
    let half : (bit (test 0) + 2 * high) / 2 ≡ high = omega arith in
    later_set (bit (test 0) + 2 * high) c ∙ ap (λ n. is_set n c) half ∙ bits_set width (λ c. test (suc c)) c (omega arith)

-- a number that is not 0 has a bit
pub bit_found : (width n : ℕ) → n < 2 ^ width → (n ≡ 0 → ⊥) → (c : ℕ) × (c < width) × (is_set n c ≡ true)
bit_found zero n h nonzero = absurd (nonzero (omega arith))
bit_found (suc width) n h nonzero =
    test_case ((c : ℕ) × (c < suc width) × (is_set n c ≡ true)) (is_on (n % 2))
    (λ yes. (0, omega arith, first_set n ∙ yes))
    (λ no.
    let double = two-pow-succ width in
    let even = eqb-false (n % 2) 1 no in
    let later = bit_found width (n / 2) (omega arith) (λ half. nonzero (omega arith)) in
    (suc later.0, omega arith, later_set n later.0 ∙ later.2))
