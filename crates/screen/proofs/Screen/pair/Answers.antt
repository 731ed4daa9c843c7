use Rattle.screen.proofs.Written.{joins}
use Rattle.screen.proofs.Screen.pair.Goals as goal

pub returns : goal.returns
returns c = joins c.put.ensures c.put-2.ensures
