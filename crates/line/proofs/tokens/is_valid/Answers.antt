use mathlib.Core.Path.{ap, ◌∙◌}
use Rattle.rules.specs.Token.{is_valid}
use Rattle.line.proofs.TokenPlaces.{same_valid}
use Rattle.line.proofs.tokens.is_valid.Goals as goal

pub returns : goal.returns
returns c = c.eq.ensures ∙ same_valid c.standing.result ∙ ap is_valid c.standing.ensures
