-- The screen stays in its bounds, and how long an echo or a rubbing out can be.
use mathlib.Core.Path.{◌≡◌, refl}
use Prim.Native.Nat.{ℕ, zero, suc, ◌+◌, ◌*◌, ◌≤◌, ◌<◌}
use native.Mathlib.Nat.{mod-lt}
use native.Mathlib.Omega.{arith}
use mathlib.Core.List.{List, [], ◌∷◌}
use lib.ListN.{length, take, drop, length-append, length-replicate, length-drop}
use Rattle.rules.specs.Choice.{joined}
use Rattle.rules.specs.Numbers.{top_column}
use Rattle.rules.specs.Screen.{Screen, SP, to_tab, column_after, column_after_all, shown, shown_all, change}
use Rattle.rules.specs.Screen.{echo, echo_terminator, echo_all, marks_behind, rub_out}
use Rattle.rules.proofs.Choice.{pick_case}

pub record BoundedScreen (s : Screen) : Type 0 where
  pub column : s.column ≤ top_column
  pub line : s.line < 256

column_bounded : (column b : ℕ) → column ≤ top_column → column_after column b ≤ top_column
unfolding column_after
column_bounded column b h =
    pick_case P _ (λ y. omega arith) λ n.
    pick_case P _ (λ y. omega arith) λ n.
    pick_case P _ (λ y. omega arith) λ n.
    pick_case P _ (λ y. omega arith) λ n. h
  where
    P : ℕ → Type 0
    P c = c ≤ top_column

shown_bounded : (s : Screen) (b : ℕ) → BoundedScreen s → BoundedScreen (shown s b)
unfolding shown
shown_bounded s b h =
    record {
      column = column_bounded s.column b h.column;
      line = pick_case (λ l. l < 256) _ (λ y. mod-lt (s.line + 1) (omega arith)) (λ n. h.line);
    }

pub shown_all_bounded : (bs : List ℕ) (s : Screen) → BoundedScreen s → BoundedScreen (shown_all s bs)
unfolding shown_all
shown_all_bounded [] s h = h
shown_all_bounded (b ∷ bs) s h = shown_all_bounded bs (shown s b) (shown_bounded s b h)

-- a change of position is a byte
pub change_byte : (now before : ℕ) → change now before < 256
unfolding change
change_byte now before = mod-lt (now + 255 * before) (omega arith)

-- Lengths.
Short : List ℕ → Type 0
Short bs = length bs ≤ 8

pub echo-length : (column n : ℕ) → length (echo column n) ≤ 8
unfolding echo Short
echo-length column n =
    pick_case Short _ (λ y. omega arith) λ n.
    pick_case Short _ (λ y. omega (arith, length-replicate (to_tab column) SP)) λ n.
    pick_case Short _ (λ y. omega arith) λ n.
    pick_case Short _ (λ y. omega arith) λ n. omega arith

pub echo_terminator-length : (column n : ℕ) → length (echo_terminator column n) ≤ 8
unfolding echo_terminator Short
echo_terminator-length column n = pick_case Short _ (λ y. omega arith) (λ e. echo-length column n)

pub echo_all-length : (column : ℕ) (ns : List ℕ) → length (echo_all column ns) ≤ 8 * length ns
unfolding echo_all
echo_all-length column [] = omega arith
echo_all-length column (n ∷ ns) =
    let one = echo-length column n in
    let next = column_after_all column (echo column n) in
    let rest = echo_all-length next ns in
    let both = length-append (echo column n) (echo_all next ns) in
    omega arith

marks_most : (kept column : ℕ) (ns : List ℕ) → marks_behind kept column ns ≤ 8 * length ns
unfolding marks_behind
marks_most kept column ns =
    let behind = echo_all-length (column_after_all column (echo_all column (take kept ns))) (drop kept ns) in
    let fewer = length-drop kept ns in
    omega arith

rub_out-length : (marks : ℕ) → length (rub_out marks) ≡ 3 * marks
unfolding rub_out joined
rub_out-length zero = refl
rub_out-length (suc marks) = let rest = rub_out-length marks in omega arith

pub rubbed_length : (kept column : ℕ) (ns : List ℕ) → length (rub_out (marks_behind kept column ns)) ≤ 24 * length ns
rubbed_length kept column ns =
    let most = marks_most kept column ns in
    let three = rub_out-length (marks_behind kept column ns) in
    omega arith
