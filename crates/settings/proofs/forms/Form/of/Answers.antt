use Rattle.std.proofs.Common.{rules}
use Rattle.rules.specs.Settings.{is_form}
use Rattle.settings.proofs.forms.Form.of.Goals as goal

pub returns-in_default : goal.returns-in_default
unfolding is_form
returns-in_default c = search rules
