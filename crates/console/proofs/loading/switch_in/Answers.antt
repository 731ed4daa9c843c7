use mathlib.Core.Path.{ap}
use Rattle.rules.specs.Choice.{is_on}
use Rattle.console.proofs.loading.switch_in.Goals as goal

pub returns : goal.returns
returns c = ap is_on c.byte_at.ensures
