use Rattle.std.proofs.Common.{rules}
use Rattle.rules.specs.Choice.{pick}
use Rattle.rules.specs.Settings.Moving.{other_form}
use Rattle.settings.proofs.forms.Form.other.Goals as goal

pub returns-in-One : goal.returns-in-One
unfolding other_form pick
returns-in-One c = search rules

pub returns-in-Two : goal.returns-in-Two
unfolding other_form pick
returns-in-Two c = search rules
