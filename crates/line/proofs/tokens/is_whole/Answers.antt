use mathlib.Core.Path.{sym, ap, ◌∙◌}
use native.Mathlib.Omega.{arith}
use borrow.Author.Tests.{eqb-true}
use Rattle.rules.specs.Token.{is_finished, is_whole}
use Rattle.rules.proofs.Numbers.{token_size_lem}
use Rattle.line.proofs.TokenPlaces.{none_whole}
use Rattle.line.proofs.tokens.is_whole.Goals as goal

pub returns-then-is_empty : goal.returns-then-is_empty
returns-then-is_empty c =
    sym (none_whole c.args.token.now token_size_lem (omega arith) (eqb-true _ 0 (sym c.is_empty.ensures ∙ c.if-is_empty.true)))

pub returns : goal.returns
unfolding is_whole
returns c = c.is_finished.ensures ∙ ap is_finished c.standing.ensures
