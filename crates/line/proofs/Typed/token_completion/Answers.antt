use mathlib.Core.Path.{sym, ap, ◌∙◌}
use mathlib.Core.List.{map-id}
use Rattle.rules.specs.Token.{is_valid, standing}
use Rattle.rules.specs.Steps.{token_code}
use Rattle.rules.proofs.Choice.{pick_true, pick-false}
use Rattle.line.specs.View.{token_of}
use Rattle.line.proofs.Typed.token_completion.Goals as goal

pub returns-then-is_valid : goal.returns-then-is_valid
unfolding token_code token_of
returns-then-is_valid c =
    sym (pick_true _ _ (ap (λ ns. is_valid (standing ns)) (map-id _) ∙ sym c.is_valid.ensures ∙ c.if-is_valid.true))

pub returns : goal.returns
unfolding token_code token_of
returns c =
    sym (pick-false _ _ (ap (λ ns. is_valid (standing ns)) (map-id _) ∙ sym c.is_valid.ensures ∙ c.if-is_valid.false))
