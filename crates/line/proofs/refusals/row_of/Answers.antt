use mathlib.Core.Path.{sym, ap, ◌∙◌}
use mathlib.Core.Bool.{not}
use Rattle.rules.specs.Choice.{first_row_answer}
use Rattle.rules.proofs.Choice.{pick_true, pick-false}
use Rattle.line.specs.Refusals.{row_of}
use Rattle.line.proofs.refusals.row_of.Goals as goal

pub returns-then-roomy : goal.returns-then-roomy
unfolding row_of first_row_answer
returns-then-roomy c = sym (pick-false _ _ (ap not c.if-roomy.true))

pub returns-else-roomy : goal.returns-else-roomy
unfolding row_of first_row_answer
returns-else-roomy c = c.number.ensures ∙ sym (pick_true _ _ (ap not c.if-roomy.false))
