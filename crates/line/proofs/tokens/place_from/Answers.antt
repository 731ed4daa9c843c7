use mathlib.Core.Path.{refl, sym, ◌∙◌}
use native.Mathlib.Omega.{arith}
use Rattle.line.specs.TokenChanges.{place_of}
use Rattle.line.proofs.TokenPlaces.{place_turn, place_end}
use Rattle.line.proofs.tokens.place_from.Goals as goal

pub loop-b-init : goal.loop-b-init
unfolding place_of
loop-b-init c = refl

pub loop-b-preserved : goal.loop-b-preserved
loop-b-preserved c =
    sym (place_turn c.args.token.now c.loop-b.b-index _ _ c.loop-b-test.true c.next-place.ensures) ∙ c.loop-b.invariant

pub returns : goal.returns
returns c = sym (place_end c.args.token.now c.loop-b.b-index _ (omega arith)) ∙ c.loop-b.invariant
