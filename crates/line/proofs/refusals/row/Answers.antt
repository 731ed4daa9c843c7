use mathlib.Core.Path.{sym, ap}
use mathlib.Core.Bool.{not}
use Rattle.rules.specs.Choice.{first_row_answer}
use Rattle.rules.proofs.Choice.{pick_true, pick-false}
use Rattle.line.specs.Refusals.{row}
use Rattle.line.proofs.refusals.row.Goals as goal

pub returns-then-passed : goal.returns-then-passed
unfolding row first_row_answer
returns-then-passed c = sym (pick-false _ _ (ap not c.if-passed.true))

pub returns-else-passed : goal.returns-else-passed
unfolding row first_row_answer
returns-else-passed c = sym (pick_true _ _ (ap not c.if-passed.false))
