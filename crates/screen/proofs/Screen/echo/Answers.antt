use Rattle.std.proofs.Common.{sym, ap, ◌∙◌}
use Rattle.screen.specs.View.{echoed}
use Rattle.screen.proofs.Written.{nothing, equals}
use Rattle.screen.proofs.Screen.echo.Goals as goal

pub returns-in-Nothing : goal.returns-in-Nothing
returns-in-Nothing c = equals (sym (ap echoed c.in-Nothing.is) ∙ c.of.ensures) nothing
