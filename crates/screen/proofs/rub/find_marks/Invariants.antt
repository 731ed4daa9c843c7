use Rattle.std.proofs.Common.{◌≡◌, ◌+◌, ◌-◌, take, drop}
use Rattle.rules.specs.Screen.{marks_behind}
use Rattle.screen.specs.Marks.{capped, first_worked_out}
use Rattle.screen.proofs.Marks.{reached}
use Rattle.screen.proofs.rub.find_marks.Given as goal

-- the columns worked out are those of so many characters from the first on
abbrev pub invariant-loop-n : goal.invariant-loop-n
invariant-loop-n l =
    let first = first_worked_out l.kept l.text in
    let walked = take l.columns (drop first l.text) in
    (l.columns ≡ l.initial.columns + l.n-index) ×
    (l.cursor ≡ reached l.column walked) ×
    (l.marks ≡ capped (marks_behind (l.kept - first) l.column walked))
