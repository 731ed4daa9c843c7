use mathlib.Core.Path.{sym}
use borrow.Author.Tests.{eq-eqb, ne_eqb}
use Rattle.rules.proofs.Choice.{pick_true, pick-false}
use Rattle.screen.proofs.Screen.line_after.Goals as goal

pub returns-then-b-eq-LF : goal.returns-then-b-eq-LF
returns-then-b-eq-LF c = sym (pick_true _ _ (eq-eqb _ _ c.if-b-eq-LF.true))

pub returns-else-b-eq-LF : goal.returns-else-b-eq-LF
returns-else-b-eq-LF c = sym (pick-false _ _ (ne_eqb _ _ c.if-b-eq-LF.false))
