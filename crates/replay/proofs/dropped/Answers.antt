use Rattle.replay.proofs.Playing.{played_count}
use Rattle.replay.proofs.dropped.Goals as goal

pub returns : goal.returns
returns c = played_count _ _ c.dropped.ensures
