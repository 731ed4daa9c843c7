use Rattle.screen.proofs.Echoes.{replicate_more}
use Rattle.screen.proofs.Written.{nothing, adds}
use Rattle.screen.proofs.Screen.repeat.Goals as goal

pub loop-init : goal.loop-init
loop-init c = nothing

pub loop-preserved : goal.loop-preserved
loop-preserved c = adds (replicate_more c.loop.counter c.args.b) c.loop.invariant c.put.ensures
