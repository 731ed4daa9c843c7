use Rattle.areas.proofs.Putting.{joins}
use Rattle.parameters.proofs.put.put_setting.Goals as goal

pub returns : goal.returns
returns c = joins c.put_word.ensures c.put_bytes.ensures
