use mathlib.Core.List.{reverse}
use mathlib.Core.Path.{◌≡◌}
use Prim.Native.Nat.{◌-◌}
use lib.ListN.{length}
use Rattle.rules.specs.Editing.{leading}
use Rattle.line.specs.ReadChanges.{of_class}
use Rattle.line.proofs.WordDeletion.{before}
use Rattle.line.proofs.input.end_before.Given as goal

abbrev pub invariant-loop-last : goal.invariant-loop-last
invariant-loop-last l = before (of_class l.word) l.last l.text ≡ length l.text - leading (of_class l.word) (reverse l.text)
