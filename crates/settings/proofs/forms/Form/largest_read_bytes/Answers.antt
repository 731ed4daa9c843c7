use Rattle.std.proofs.Common.{rules}
use Rattle.rules.specs.Choice.{pick}
use Rattle.rules.specs.Settings.{largest_read_bytes}
use Rattle.settings.proofs.forms.Form.largest_read_bytes.Goals as goal

pub returns-in-One : goal.returns-in-One
unfolding largest_read_bytes pick
returns-in-One c = search rules

pub returns-in-Two : goal.returns-in-Two
unfolding largest_read_bytes pick
returns-in-Two c = search rules
