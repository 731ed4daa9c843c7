use Rattle.std.proofs.Common.{rules}
use Rattle.rules.specs.Choice.{pick}
use Rattle.rules.specs.Settings.{top_largest_read}
use Rattle.settings.proofs.forms.Form.top_largest_read.Goals as goal

pub returns-in-One : goal.returns-in-One
unfolding top_largest_read pick
returns-in-One c = search rules

pub returns-in-Two : goal.returns-in-Two
unfolding top_largest_read pick
returns-in-Two c = search rules
