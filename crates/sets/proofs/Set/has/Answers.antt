use mathlib.Core.Path.{sym, ap, ◌∙◌}
use Prim.Native.Nat.{ℕ, ◌/◌, ◌%◌, ◌^◌}
use native.Mathlib.Nat.{zero-div}
use native.Mathlib.Omega.{arith}
use mathlib.Core.Bool.{Bool}
use lib.Dec.{eqb}
use lib.ListN.{take, get_or-eq_default, length-take}
use lib.Seq.{get_or-take}
use Rattle.rules.specs.StartRead.{in_set}
use Rattle.sets.specs.View.{set_of}
use Rattle.sets.proofs.Set.has.Goals as goal

-- the bit of a code in its byte
abbrev bit_in : ℕ → ℕ → Bool
bit_in c byte = eqb (byte / 2 ^ (c % 8) % 2) 1

pub returns-then-self-at : goal.returns-then-self-at
unfolding in_set set_of
returns-then-self-at c =
    let a = c.args in
    let s = a.self in
    let long = length-take s.len s.bytes in
    let none = get_or-eq_default (take s.len s.bytes) 0 {n = a.c / 8} (omega (arith, c.if-self-at.true)) in
    sym (ap (bit_in a.c) none ∙ ap (λ n. eqb (n % 2) 1) (zero-div (2 ^ (a.c % 8))))

pub returns : goal.returns
unfolding in_set set_of
returns c =
    let a = c.args in
    ap (bit_in a.c) (sym (get_or-take a.self.len a.self.bytes (a.c / 8) 0 (omega (arith, c.if-self-at.false))))
