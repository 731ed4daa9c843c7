use Rattle.replay.proofs.Playing.{played_load}
use Rattle.replay.proofs.load.Goals as goal

pub returns : goal.returns
returns c = λ p. played_load p _ _ c.record_at.ensures c.record_at-2.ensures c.load.ensures
