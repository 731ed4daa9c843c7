use Rattle.std.proofs.Common.{rules}
use borrow.Author.Tests.{tests}
use Rattle.rules.specs.Choice.{within}
use Rattle.rules.specs.Messages.Parameters.{defined_selector}
use Rattle.parameters.proofs.kinds.is_defined.Goals as goal

pub returns : goal.returns
unfolding defined_selector within
returns c = search (rules, tests)
