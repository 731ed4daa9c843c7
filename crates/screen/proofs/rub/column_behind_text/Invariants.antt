use Rattle.std.proofs.Common.{◌≡◌, take}
use Rattle.screen.proofs.Marks.{reached}
use Rattle.screen.proofs.rub.column_behind_text.Given as goal

abbrev pub invariant-loop-n : goal.invariant-loop-n
invariant-loop-n l = (l.cursor ≡ reached l.column (take l.n-index l.text)) × (l.worked_out ≡ l.n-index)
