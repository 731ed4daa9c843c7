use Rattle.areas.proofs.Putting.{joins}
use Rattle.line.proofs.initiate.put_parameter.Goals as goal

pub returns : goal.returns
returns c = joins c.put_word.ensures c.put_word-2.ensures
