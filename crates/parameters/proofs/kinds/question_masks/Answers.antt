use Rattle.std.proofs.Common.{sym, ap, map}
use borrow.Author.Tests.{tests, eq-eqb, ne_eqb}
use Rattle.rules.specs.Messages.Parameters.{question_limits}
use Rattle.rules.proofs.Choice.{pick_true, pick-false}
use Rattle.parameters.specs.Lists.{mask}
use Rattle.parameters.proofs.kinds.question_masks.Goals as goal

pub returns-in-514 : goal.returns-in-514
unfolding question_limits
returns-in-514 c = ap (map mask) (sym (pick_true _ _ (eq-eqb _ _ c.in-514.is)))

pub returns-in_default : goal.returns-in_default
unfolding question_limits
returns-in_default c = ap (map mask) (sym (pick-false _ _ (ne_eqb _ _ (λ e. search tests))))
