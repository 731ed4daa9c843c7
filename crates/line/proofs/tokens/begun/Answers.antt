use mathlib.Core.Path.{sym, ◌∙◌}
use native.Mathlib.Omega.{arith}
use borrow.Author.Tests.{eq-eqb, ne_eqb}
use Rattle.rules.specs.Token.{next}
use Rattle.rules.proofs.Choice.{pick_true, pick-false}
use Rattle.line.specs.TokenChanges.{place_of}
use Rattle.line.proofs.tokens.begun.Goals as goal

pub returns-in-27 : goal.returns-in-27
unfolding place_of next
returns-in-27 c = sym (pick_true _ _ (eq-eqb _ 27 c.in-27.is))

pub returns-in-155 : goal.returns-in-155
unfolding place_of next
returns-in-155 c = sym (pick-false _ _ (ne_eqb _ 27 (λ e. omega arith)) ∙ pick_true _ _ (eq-eqb _ 155 c.in-155.is))

pub returns-in_default : goal.returns-in_default
unfolding place_of next
returns-in_default c = sym (pick-false _ _ (ne_eqb _ 27 (λ e. omega arith)) ∙ pick-false _ _ (ne_eqb _ 155 (λ e. omega arith)))
