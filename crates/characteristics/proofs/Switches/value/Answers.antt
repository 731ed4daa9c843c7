use Rattle.std.proofs.Common.{sym, ap}
use borrow.Author.Tests.{tests, ne_eqb}
use Rattle.rules.specs.Choice.{pick}
use Rattle.rules.specs.Characteristics.{switch_of}
use Rattle.characteristics.specs.View.{switches_of}
use Rattle.characteristics.proofs.Switches.value.Goals as goal

pub returns-in-516 : goal.returns-in-516
unfolding switch_of pick
returns-in-516 c = sym (ap (λ n. switch_of n (switches_of c.args.self)) c.in-516.is)

pub returns-in-517 : goal.returns-in-517
unfolding switch_of pick
returns-in-517 c = sym (ap (λ n. switch_of n (switches_of c.args.self)) c.in-517.is)

pub returns-in-518 : goal.returns-in-518
unfolding switch_of pick
returns-in-518 c = sym (ap (λ n. switch_of n (switches_of c.args.self)) c.in-518.is)

pub returns-in_default : goal.returns-in_default
unfolding switch_of pick
returns-in_default c =
    let n = c.args.selector in
    rw (ne_eqb n 516 (λ e. search tests), ne_eqb n 517 (λ e. search tests), ne_eqb n 518 (λ e. search tests))
