use Rattle.screen.proofs.Written.{joins}
use Rattle.screen.proofs.Screen.rub_one.Goals as goal

pub returns : goal.returns
returns c = joins c.pair.ensures c.put.ensures
