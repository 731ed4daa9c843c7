use mathlib.Core.Logic.◌⊎◌.{inl, inr}
use mathlib.Core.Path.{sym, ap, ◌∙◌}
use Rattle.rules.specs.Token.{next}
use Rattle.line.specs.TokenChanges.{place_of}
use Rattle.line.proofs.tokens.Place.next.Goals as goal

pub returns-in-Empty : goal.returns-in-Empty
unfolding place_of
returns-in-Empty c = c.begun.ensures ∙ sym (ap (λ p. next (place_of p) c.args.n) c.in-Empty.is)

pub returns-in-Escape : goal.returns-in-Escape
unfolding place_of
returns-in-Escape c = c.after_escape.ensures ∙ sym (ap (λ p. next (place_of p) c.args.n) c.in-Escape.is)

pub returns-in-Middle : goal.returns-in-Middle
unfolding place_of next
returns-in-Middle c = c.ended.ensures ∙ sym (ap (λ p. next (place_of p) c.args.n) c.in-Middle.is)

pub returns-in-Parameters : goal.returns-in-Parameters
unfolding place_of
returns-in-Parameters c = c.after_parameter.ensures ∙ sym (ap (λ p. next (place_of p) c.args.n) c.in-Parameters.is)

pub returns-in-Intermediates : goal.returns-in-Intermediates
unfolding place_of next
returns-in-Intermediates c = c.ended-in-Intermediates.ensures ∙ sym (ap (λ p. next (place_of p) c.args.n) c.in-Intermediates.is)

pub returns-in-Valid : goal.returns-in-Valid
unfolding place_of next
returns-in-Valid c =
    elim c.in-Valid.is [ inl valid ↦ sym (ap (λ p. next (place_of p) c.args.n) valid) | inr invalid ↦ sym (ap (λ p. next (place_of p) c.args.n) invalid) ]
