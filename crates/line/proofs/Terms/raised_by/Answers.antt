use mathlib.Core.Path.{sym, ◌∙◌}
use Rattle.rules.specs.Steps.{raised_by}
use Rattle.rules.proofs.Choice.{pick_true, pick-false}
use Rattle.line.proofs.Terms.raised_by.Goals as goal

pub returns-then-self : goal.returns-then-self
unfolding raised_by
returns-then-self c text l r = c.raised.ensures ∙ sym (pick_true _ _ c.if-self.true)

pub returns : goal.returns
unfolding raised_by
returns c text l r = sym (pick-false _ _ c.if-self.false)
