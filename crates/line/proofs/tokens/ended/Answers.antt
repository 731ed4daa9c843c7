use mathlib.Core.Path.{sym, ◌∙◌}
use Rattle.rules.specs.Choice.{within}
use Rattle.rules.proofs.Choice.{pick_true, pick-false}
use Rattle.line.specs.TokenChanges.{place_of}
use Rattle.line.proofs.tokens.ended.Goals as goal

pub returns-then-n : goal.returns-then-n
unfolding within
returns-then-n c = sym (pick_true _ _ c.if-n.true)

pub returns-then-low-n : goal.returns-then-low-n
unfolding within place_of
returns-then-low-n c = sym (pick-false _ _ c.if-n.false ∙ pick_true _ _ c.if-low-n.true)

pub returns : goal.returns
unfolding within place_of
returns c = sym (pick-false _ _ c.if-n.false ∙ pick-false _ _ c.if-low-n.false)
