use mathlib.Core.Path.{sym, ◌∙◌}
use native.Mathlib.Omega.{arith}
use Rattle.rules.specs.Token.{next}
use Rattle.rules.proofs.Choice.{pick_true, pick-false, within-true}
use Rattle.line.specs.TokenChanges.{place_of}
use Rattle.line.proofs.TokenPlaces.{outside}
use Rattle.line.proofs.tokens.after_parameter.Goals as goal

pub returns-in-48-to-63 : goal.returns-in-48-to-63
unfolding next place_of
returns-in-48-to-63 c = sym (pick_true _ _ (within-true 48 63 _ (omega arith) (omega arith)))

pub returns-in_default : goal.returns-in_default
unfolding next place_of
returns-in_default c = c.ended.ensures ∙ sym (pick-false _ _ (outside 48 63 _ (λ low high. omega arith)))
