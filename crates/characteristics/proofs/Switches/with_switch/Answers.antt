use Rattle.std.proofs.Common.{sym, ap}
use borrow.Author.Tests.{tests}
use Rattle.rules.specs.Choice.{pick}
use Rattle.rules.specs.Characteristics.{with_switch}
use Rattle.characteristics.specs.View.{switches_of}
use Rattle.characteristics.proofs.Obeying.{no_switch}
use Rattle.characteristics.proofs.Switches.with_switch.Goals as goal

pub returns-in-516 : goal.returns-in-516
unfolding with_switch pick
returns-in-516 c = sym (ap (λ n. with_switch n c.args.on (switches_of c.args.self)) c.in-516.is)

pub returns-in-517 : goal.returns-in-517
unfolding with_switch pick
returns-in-517 c = sym (ap (λ n. with_switch n c.args.on (switches_of c.args.self)) c.in-517.is)

pub returns-in-518 : goal.returns-in-518
unfolding with_switch pick
returns-in-518 c = sym (ap (λ n. with_switch n c.args.on (switches_of c.args.self)) c.in-518.is)

pub returns-in-521 : goal.returns-in-521
unfolding with_switch pick
returns-in-521 c = sym (ap (λ n. with_switch n c.args.on (switches_of c.args.self)) c.in-521.is)

pub returns-in_default : goal.returns-in_default
returns-in_default c = no_switch c.args.on (switches_of c.args.self) (λ e. search tests) (λ e. search tests) (λ e. search tests) (λ e. search tests)
