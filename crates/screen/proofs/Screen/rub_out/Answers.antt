use Rattle.rules.specs.Choice.{joined}
use Rattle.rules.specs.Screen.{rub_out}
use Rattle.screen.proofs.Echoes.{rub_out_more}
use Rattle.screen.proofs.Written.{nothing, adds}
use Rattle.screen.proofs.Screen.rub_out.Goals as goal

pub loop-init : goal.loop-init
unfolding rub_out joined
loop-init c = nothing

pub loop-preserved : goal.loop-preserved
loop-preserved c = adds (rub_out_more c.loop.counter) c.loop.invariant c.rub_one.ensures
