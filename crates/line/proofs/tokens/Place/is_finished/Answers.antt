use mathlib.Core.Logic.◌⊎◌.{inl, inr}
use mathlib.Core.Path.{sym, ap}
use Rattle.rules.specs.Token.{is_finished}
use Rattle.line.specs.TokenChanges.{place_of}
use Rattle.line.proofs.TokenPlaces.{unfinished}
use Rattle.line.proofs.tokens.Place.is_finished.Goals as goal

pub returns-in-Valid : goal.returns-in-Valid
unfolding place_of is_finished
returns-in-Valid c =
    elim c.in-Valid.is [ inl valid ↦ sym (ap (λ p. is_finished (place_of p)) valid) | inr invalid ↦ sym (ap (λ p. is_finished (place_of p)) invalid) ]

pub returns-in_default : goal.returns-in_default
returns-in_default c = sym (unfinished c.args.self c.in_default.not-Valid c.in_default.not-Invalid)
