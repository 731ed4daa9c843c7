use mathlib.Core.Path.{sym}
use borrow.Author.Tests.{eq-eqb, ne_eqb}
use Rattle.rules.specs.StartRead.Acceptance.{chosen}
use Rattle.rules.proofs.Choice.{pick_true, pick-false}
use Rattle.line.proofs.start_read.chosen.Goals as goal

pub returns-then-n-eq-AS_CHARACTERISTIC : goal.returns-then-n-eq-AS_CHARACTERISTIC
unfolding chosen
returns-then-n-eq-AS_CHARACTERISTIC c = sym (pick_true _ _ (eq-eqb _ _ c.if-n-eq-AS_CHARACTERISTIC.true))

pub returns : goal.returns
unfolding chosen
returns c = sym (pick-false _ _ (ne_eqb _ _ c.if-n-eq-AS_CHARACTERISTIC.false))
