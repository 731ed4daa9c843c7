use Rattle.std.proofs.Common.{replicate}
use Rattle.screen.specs.View.{Shows}
use Rattle.screen.proofs.Screen.repeat.Given as goal

abbrev pub invariant-loop : goal.invariant-loop
invariant-loop l = Shows (replicate l.counter l.b) l.initial.self l.self l.initial.w l.w
