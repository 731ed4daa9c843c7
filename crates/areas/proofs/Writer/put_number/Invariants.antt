use Rattle.std.proofs.Common.{◌-◌}
use Rattle.rules.specs.Messages.Layout.{bytes_of}
use Rattle.areas.proofs.Putting.{Left}
use Rattle.areas.proofs.Writer.put_number.Given as goal

abbrev pub invariant-loop : goal.invariant-loop
invariant-loop l = Left (bytes_of l.count l.n) l.initial.self (bytes_of (l.count - l.counter) l.rest) l.self
