use mathlib.Core.Path.{sym, ◌∙◌}
use borrow.Author.Tests.{eq-eqb, ne_eqb}
use Rattle.rules.proofs.Choice.{pick_true, pick-false}
use Rattle.line.proofs.StartRead.{set_given}
use Rattle.line.proofs.start_read.last_set.Goals as goal

pub returns-then-f-eq-CHOOSES_THIS : goal.returns-then-f-eq-CHOOSES_THIS
returns-then-f-eq-CHOOSES_THIS c =
    let given = c.of.ensures in
    let same = set_given c.args.s.now c.args.f.set c.span_of.ensures c.requires.set_len_bound given.0 in
    (same ∙ sym (pick_true _ _ (eq-eqb _ _ c.if-f-eq-CHOOSES_THIS.true)), given.1)

pub returns : goal.returns
returns c = (sym (pick-false _ _ (ne_eqb _ _ c.if-f-eq-CHOOSES_THIS.false)), c.requires.counted_set)
