use Rattle.std.proofs.Common.{take}
use Rattle.rules.specs.Screen.{echo_all}
use Rattle.screen.specs.View.{Shows}
use Rattle.screen.proofs.Screen.echo_all.Given as goal

abbrev pub invariant-loop-character : goal.invariant-loop-character
invariant-loop-character l = Shows (echo_all l.initial.self.column (take l.character-index l.text)) l.initial.self l.self l.initial.w l.w
