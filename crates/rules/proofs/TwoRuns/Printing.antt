-- What is known of a printing code: no control has it, and its raised form prints too and is of the same word class.
use Prim.Native.Nat.{ℕ, zero, suc, ◌≤◌, ◌<◌}
use mathlib.Core.Path.{◌≡◌, refl, sym, ap, ◌∙◌}
use mathlib.Core.Bool.{Bool, true, false, beq, ◌&&◌, false≢true, and-false}
use native.Mathlib.Omega.{arith}
use lib.Dec.{leb, ltb, eqb}
use borrow.Author.Tests.{ltb-true, ltb-false, leb-false, lt-leb, eqb-true, eqb-false, ne_eqb}
use Rattle.rules.specs.Choice.{pick, within}
use Rattle.rules.specs.Editing.{is_word}
use Rattle.rules.specs.State.{raised}
use Rattle.rules.specs.TwoRuns.{is_printing}
use Rattle.rules.proofs.Choice.{pick_true, halves}

-- opens what a computed test of a printing code needs
unfoldable pub printing : Unit {0}
unfolding is_printing within
printing = tt

-- all numbers below a number pass a test
all_below : ℕ → (ℕ → Bool) → Bool
all_below zero test = true
all_below (suc n) test = test n && all_below n test

below_at : (n : ℕ) (test : ℕ → Bool) (k : ℕ) → all_below n test ≡ true → k < n → test k ≡ true
unfolding all_below
below_at zero test k e h = absurd (omega arith)
below_at (suc n) test k e h =
    let t = halves (test n) (all_below n test) e in
    at_last (eqb k n) refl t.0 (below_at n test k t.1)
  where
    at_last : (b : Bool) → eqb k n ≡ b → test n ≡ true → (k < n → test k ≡ true) → test k ≡ true
    at_last true q p rest = ap test (eqb-true k n q) ∙ p
    at_last false q p rest = rest (let d = eqb-false k n q in omega arith)

-- raising a printing code leaves it printing and its word class as it was: computed for all bytes
kept_by_raising : ℕ → Bool
kept_by_raising n = pick (is_printing n) (is_printing (raised n) && beq (is_word (raised n)) (is_word n)) true

all_kept : all_below 256 kept_by_raising ≡ true
unfolding all_below kept_by_raising printing pick raised is_word
all_kept = refl

-- a printing code is a byte: past the bytes no range that ends among them goes on
within_past : (low high n : ℕ) → 256 ≤ n → within low high n ≡ leb 256 high && leb low n && leb n high
unfolding within
within_past low high n h = by_high (leb 256 high) refl
  where
    by_high : (b : Bool) → leb 256 high ≡ b → leb low n && leb n high ≡ b && leb low n && leb n high
    by_high true e = refl
    by_high false e =
        let k = leb-false 256 high e in
        rw (lt-leb n high (omega arith)) (and-false (leb low n))

printing_byte : (n : ℕ) → is_printing n ≡ true → n < 256
unfolding is_printing
printing_byte n e = by_size (ltb n 256) refl
  where
    by_size : (b : Bool) → ltb n 256 ≡ b → n < 256
    by_size true q = ltb-true n 256 q
    by_size false q = let h = ltb-false n 256 q in absurd (false≢true (simp within_past at e))

pub beq_same : (a b : Bool) → beq a b ≡ true → a ≡ b
beq_same true true e = refl
beq_same true false e = absurd (false≢true e)
beq_same false true e = absurd (false≢true e)
beq_same false false e = refl

pub record Raises (n : ℕ) : Type 0 where
  pub printing : is_printing (raised n) ≡ true
  pub class : is_word (raised n) ≡ is_word n

pub raised_printing : (n : ℕ) → is_printing n ≡ true → Raises n
unfolding kept_by_raising
raised_printing n p =
    let k = below_at 256 kept_by_raising n all_kept (printing_byte n p) in
    let h = halves (is_printing (raised n)) (beq (is_word (raised n)) (is_word n)) (sym (pick_true _ _ p) ∙ k) in
    record { printing = h.0; class = beq_same _ _ h.1 }

-- no printing code is one that does not print
pub unlike : (k n : ℕ) → is_printing k ≡ false → is_printing n ≡ true → eqb n k ≡ false
unlike k n e p = ne_eqb n k (λ q. false≢true (sym e ∙ ap is_printing (sym q) ∙ p))
