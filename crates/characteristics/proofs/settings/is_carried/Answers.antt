use Rattle.std.proofs.Common.{rules}
use borrow.Author.Tests.{tests}
use Rattle.rules.specs.Characteristics.{is_carried}
use Rattle.characteristics.proofs.settings.is_carried.Goals as goal

pub returns-in_default : goal.returns-in_default
unfolding is_carried
returns-in_default c = search (rules, tests)

pub returns-in_default-2 : goal.returns-in_default-2
unfolding is_carried
returns-in_default-2 c = search (rules, tests)

pub returns-in-514 : goal.returns-in-514
unfolding is_carried
returns-in-514 c = search (rules, tests)

pub returns-in-514-2 : goal.returns-in-514-2
unfolding is_carried
returns-in-514-2 c = search (rules, tests)
