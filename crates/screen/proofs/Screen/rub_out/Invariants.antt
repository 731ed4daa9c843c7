use Rattle.rules.specs.Screen.{rub_out}
use Rattle.screen.specs.View.{Shows}
use Rattle.screen.proofs.Screen.rub_out.Given as goal

abbrev pub invariant-loop : goal.invariant-loop
invariant-loop l = Shows (rub_out l.counter) l.initial.self l.self l.initial.w l.w
