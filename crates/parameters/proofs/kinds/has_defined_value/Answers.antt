use Rattle.std.proofs.Common.{rules, ◌≡◌, sym, ap, ◌∙◌, ◌+◌, ◌*◌}
use native.Mathlib.Omega.{arith}
use borrow.Author.Tests.{tests, eq-eqb, ne_eqb}
use Rattle.rules.specs.Choice.{within}
use Rattle.rules.specs.Messages.Parameters.{defined_selector, defined_value}
use Rattle.rules.proofs.Choice.{pick_true, pick-false}
use Rattle.parameters.proofs.Shapes.{both_halves}
use Rattle.parameters.proofs.kinds.has_defined_value.Goals as goal

pub returns-then-p-ne-INPUT_COUNT_STATE : goal.returns-then-p-ne-INPUT_COUNT_STATE
unfolding defined_value
returns-then-p-ne-INPUT_COUNT_STATE c =
    let own = both_halves c.args.p.selector in
    c.is_defined.ensures ∙
    ap defined_selector (sym own) ∙
    sym (pick-false _ _ (ne_eqb _ 520 (λ e. c.if-p-ne-INPUT_COUNT_STATE.true (sym own ∙ e))))

pub returns : goal.returns
unfolding defined_value within
returns c =
    let p = c.args.p in
    let state : c.from_le_bytes-state.result ≡ p.first + 256 * p.second = omega (arith, c.from_le_bytes-state.ensures) in
    let inside : c.contains.result ≡ within 1 3 c.from_le_bytes-state.result = search (rules, tests) in
    inside ∙ ap (within 1 3) state ∙ sym (pick_true _ _ (eq-eqb _ 520 (both_halves p.selector ∙ c.if-p-ne-INPUT_COUNT_STATE.false)))
