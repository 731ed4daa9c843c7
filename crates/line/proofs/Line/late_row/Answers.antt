use Rattle.std.proofs.Common.{rules as found_alone, ◌≡◌, Err, ap, ◌∙◌, arith}
use Rattle.rules.specs.Refusals.{answered}
use Rattle.rules.proofs.RefusalNumbers.{never-accepted}
use Rattle.line.proofs.RefusalRows.{row_stops, row_passes}
use Rattle.line.specs.Refusals.{row, last_row}
use Rattle.rules.specs.Numbers.{unsound, not_carried}
use Rattle.line.proofs.Line.late_row.Goals as goal

pub returns-in_err-row : goal.returns-in_err-row
unfolding last_row
returns-in_err-row c = λ x held defined.
    let e = c.in_err-row.field-0.0 in
    let answer : c.from_residual.result ≡ Err e = search found_alone in
    ap answered answer
    ∙ row_stops unsound _ _ (c.in_err-row.ensures ∙ ap (row unsound) (c.passes_test.ensures c.args.s.now x held defined)) (never-accepted e)

pub returns : goal.returns
unfolding last_row row
returns c = λ x held defined.
    c.row-2.ensures ∙ ap (row not_carried) (c.carries.ensures x held)
    ∙ row_passes unsound _ _ (λ e. omega arith) (c.in_ok-row.ensures ∙ ap (row unsound) (c.passes_test.ensures c.args.s.now x held defined))
