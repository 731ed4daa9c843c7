use Rattle.std.proofs.Common.{refl}
use Rattle.areas.proofs.Putting.{stored, lost}
use Rattle.areas.proofs.Writer.put_byte.Goals as goal

pub returns-then-self : goal.returns-then-self
returns-then-self c = record { puts = stored c.if-self.true; same_reference = refl }

pub returns-else-self : goal.returns-else-self
returns-else-self c = record { puts = lost c.if-self.false; same_reference = refl }
