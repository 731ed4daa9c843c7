use Rattle.std.proofs.Common.{length}
use Rattle.fronts.proofs.flags.+packed.Given as goal

abbrev pub decreases-packed : goal.decreases-packed
decreases-packed l = length l.fields.now
