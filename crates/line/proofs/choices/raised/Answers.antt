use Prim.Native.Nat.{◌≤◌}
use mathlib.Core.Path.{sym, ap, ◌∙◌}
use mathlib.Core.Bool.{◌||◌}
use native.Mathlib.Omega.{arith}
use Rattle.rules.specs.Choice.{within}
use Rattle.rules.specs.State.{raised, first_small, last_small, is_small, first_small_accent, last_small_accent, is_small_accent, small_shift}
use Rattle.rules.proofs.Choice.{pick_true, pick-false, halves, or_case, within_bounds}
use Rattle.line.proofs.choices.raised.Goals as goal

pub overflow_sub-result : goal.overflow_sub-result
unfolding within
overflow_sub-result c =
    let n = c.args.c in
    or_case (small_shift ≤ n) (is_small n) (is_small_accent n)
    (λ small. omega (arith, within_bounds first_small last_small n small))
    (λ accent. omega (arith, within_bounds first_small_accent last_small_accent n (halves (within first_small_accent last_small_accent n) _ accent).0))
    (ap (λ b. b || is_small_accent n) (sym c.is_ascii_lowercase.ensures.value) ∙ c.if-is_ascii_lowercase-c.true)

pub returns-then-is_ascii_lowercase-c : goal.returns-then-is_ascii_lowercase-c
unfolding raised within
returns-then-is_ascii_lowercase-c c =
    sym (pick_true _ _ (ap (λ b. b || is_small_accent c.args.c) (sym c.is_ascii_lowercase.ensures.value) ∙ c.if-is_ascii_lowercase-c.true))

pub returns : goal.returns
unfolding raised within
returns c =
    sym (pick-false _ _ (ap (λ b. b || is_small_accent c.args.c) (sym c.is_ascii_lowercase.ensures.value) ∙ c.if-is_ascii_lowercase-c.false))
