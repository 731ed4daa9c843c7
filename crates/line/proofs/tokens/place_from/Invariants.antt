use mathlib.Core.Path.{◌≡◌}
use lib.ListN.{drop}
use Rattle.rules.specs.Token.{empty, place_from}
use Rattle.line.specs.TokenChanges.{place_of}
use Rattle.line.proofs.tokens.place_from.Given as goal

abbrev pub invariant-loop-b : goal.invariant-loop-b
invariant-loop-b l = place_from (place_of l.place) (drop l.b-index l.token) ≡ place_from empty l.token
