use Rattle.std.proofs.Common.{sym}
use Rattle.screen.proofs.Cases.{echo_terminator-CR, echo_terminator_other}
use Rattle.screen.proofs.Written.{equals}
use Rattle.screen.proofs.Screen.echo_terminator.Goals as goal

pub returns-then-n-eq-CR : goal.returns-then-n-eq-CR
returns-then-n-eq-CR c = equals (sym (echo_terminator-CR _ c.if-n-eq-CR.true)) c.pair.ensures

pub returns-else-n-eq-CR : goal.returns-else-n-eq-CR
returns-else-n-eq-CR c = equals (sym (echo_terminator_other _ c.if-n-eq-CR.false)) c.echo.ensures
