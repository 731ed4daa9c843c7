use mathlib.Core.Path.{sym, ◌∙◌}
use borrow.Author.Tests.{eq-eqb, ne_eqb}
use Rattle.rules.proofs.Choice.{pick_true, pick-false}
use Rattle.screen.proofs.rub.column_behind.Goals as goal

pub returns-then-marks-eq0 : goal.returns-then-marks-eq0
returns-then-marks-eq0 c = sym (pick_true _ _ (eq-eqb _ _ c.if-marks-eq0.true))

pub returns-else-marks-eq0 : goal.returns-else-marks-eq0
returns-else-marks-eq0 c = c.further.ensures ∙ sym (pick-false _ _ (ne_eqb _ _ c.if-marks-eq0.false))
