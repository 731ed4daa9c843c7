use Rattle.rules.specs.StartRead.{universal}
use Rattle.sets.proofs.Set.universal.Goals as goal

pub returns : goal.returns
unfolding universal
returns c = c.of.ensures
