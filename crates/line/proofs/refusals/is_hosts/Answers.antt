use mathlib.Core.Path.{refl}
use Rattle.rules.specs.Choice.{within}
use Rattle.rules.specs.Messages.Codec.{defined_kind}
use Rattle.rules.specs.Calls.{is_servers, is_hosts}
use Rattle.line.proofs.refusals.is_hosts.Goals as goal

pub returns : goal.returns
unfolding is_hosts defined_kind within is_servers
returns c = refl
