use Rattle.std.proofs.Common.{arith, sym, ap, ◌∙◌, replicate}
use Rattle.rules.specs.Choice.{pick, within}
use Rattle.rules.specs.Screen.{SP, is_mark, echo}
use Rattle.screen.proofs.Cases.{echo_mark, echo_control, echo_none}
use Rattle.screen.proofs.echo.Echo.of.Goals as goal

pub returns-then-is_mark : goal.returns-then-is_mark
returns-then-is_mark c = sym (echo_mark _ (sym c.is_mark.ensures ∙ c.if-is_mark.true))

pub returns-in-9 : goal.returns-in-9
unfolding echo is_mark within pick
returns-in-9 c = ap (λ k. replicate k SP) c.to_tab.ensures ∙ sym (ap (echo c.args.column) c.in-9.is)

pub returns-in-127 : goal.returns-in-127
unfolding echo is_mark within pick
returns-in-127 c = sym (ap (echo c.args.column) c.in-127.is)

pub returns-in-0-to-31 : goal.returns-in-0-to-31
returns-in-0-to-31 c =
    sym (echo_control _ (sym c.is_mark.ensures ∙ c.if-is_mark.false) (λ t. omega arith) (omega arith))

pub returns-in_default : goal.returns-in_default
returns-in_default c =
    sym (echo_none _ (sym c.is_mark.ensures ∙ c.if-is_mark.false) (λ t. omega arith) (omega arith) (λ d. omega arith))
