use mathlib.Core.Path.{sym, ◌∙◌}
use native.Mathlib.Omega.{arith}
use borrow.Author.Tests.{eq-eqb, ne_eqb}
use Rattle.rules.specs.StartRead.{chosen_set}
use Rattle.rules.proofs.Choice.{pick_true, pick-false}
use Rattle.message.specs.Found.{start_read_in}
use Rattle.line.proofs.StartRead.{set_given}
use Rattle.line.proofs.start_read.chosen_set.Goals as goal

pub returns-in-0 : goal.returns-in-0
unfolding chosen_set start_read_in
returns-in-0 c = (sym (pick_true _ _ (eq-eqb _ _ c.in-0.is)), c.requires.counted_set)

pub returns-in-1 : goal.returns-in-1
unfolding chosen_set start_read_in
returns-in-1 c =
    let given = c.of.ensures in
    let same = set_given c.args.s.now c.args.f.set c.span_of.ensures c.requires.set_len_bound given.0 in
    let other = pick-false _ _ (ne_eqb _ _ (λ e. omega (arith, e, c.in-1.is))) in
    let this = pick_true _ _ (eq-eqb _ _ c.in-1.is) in
    (same ∙ sym (other ∙ this), given.1)

pub returns-in_default : goal.returns-in_default
unfolding chosen_set start_read_in
returns-in_default c =
    let other = pick-false _ _ (ne_eqb _ _ (λ e. omega (arith, e))) in
    let neither = pick-false _ _ (ne_eqb _ _ (λ e. omega (arith, e))) in
    (c.universal.ensures.0 ∙ sym (other ∙ neither), c.universal.ensures.1)
