use Rattle.screen.proofs.Echoes.{take_more}
use Rattle.screen.proofs.Written.{nothing, adds}
use Rattle.screen.proofs.Screen.write.Goals as goal

pub loop-byte-init : goal.loop-byte-init
loop-byte-init c = nothing

pub loop-byte-preserved : goal.loop-byte-preserved
loop-byte-preserved c = adds (take_more c.args.text.now c.loop-byte.byte-index c.loop-byte-test.true) c.loop-byte.invariant c.put.ensures
