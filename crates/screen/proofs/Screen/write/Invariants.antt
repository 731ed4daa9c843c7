use Rattle.std.proofs.Common.{take}
use Rattle.screen.specs.View.{Shows}
use Rattle.screen.proofs.Screen.write.Given as goal

abbrev pub invariant-loop-byte : goal.invariant-loop-byte
invariant-loop-byte l = Shows (take l.byte-index l.text) l.initial.self l.self l.initial.w l.w
