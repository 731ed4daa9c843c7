use mathlib.Core.Path.{sym, ap, ◌∙◌}
use mathlib.Core.Bool.{not, ◌&&◌}
use lib.Dec.{leb}
use lib.ListN.{length}
use Rattle.rules.proofs.Numbers.{token_size_lem}
use Rattle.line.specs.TokenChanges.{place_of}
use Rattle.line.proofs.TokenPlaces.{standing_cut, standing_kept}
use Rattle.line.proofs.tokens.standing.Goals as goal

pub returns-then-token-is_finished : goal.returns-then-token-is_finished
unfolding place_of
returns-then-token-is_finished c =
    sym (standing_cut c.args.token.now _ c.place_from-place.ensures token_size_lem
    (ap (λ b. leb 16 (length c.args.token.now) && not b) (sym c.is_finished.ensures) ∙ c.if-token-is_finished.true))

pub returns : goal.returns
returns c =
    sym (standing_kept c.args.token.now _ c.place_from-place.ensures token_size_lem
    (ap (λ b. leb 16 (length c.args.token.now) && not b) (sym c.is_finished.ensures) ∙ c.if-token-is_finished.false))
