use Rattle.std.proofs.Common.{rules as found_alone, ◌≡◌, Err, refl, ap, ◌∙◌, arith}
use Rattle.rules.specs.Refusals.{answered}
use Rattle.rules.proofs.RefusalNumbers.{never-accepted}
use Rattle.line.specs.View.{view}
use Rattle.line.proofs.ReceivedMessage.{is_pending_lem}
use Rattle.line.proofs.RefusalRows.{row_stops, row_passes}
use Rattle.rules.specs.Calls.{is_hosts, is_timely}
use Rattle.rules.specs.Numbers.{small_area, wrong_length, wrong_type, wrong_time}
use Rattle.line.specs.Refusals.{row, first_row}
use Rattle.line.proofs.Line.early_row.Goals as goal

pub returns-in_err-row : goal.returns-in_err-row
unfolding first_row
returns-in_err-row c =
    let e = c.in_err-row.field-0.0 in
    let answer : c.from_residual.result ≡ Err e = search found_alone in
    ap answered answer
    ∙ row_stops small_area _ _ (c.in_err-row.ensures ∙ ap (row small_area) c.are_roomy.ensures) (never-accepted e)

pub returns-in_err-row-2 : goal.returns-in_err-row-2
unfolding first_row
returns-in_err-row-2 c =
    let e = c.in_err-row-2.field-0.0 in
    let answer : c.from_residual-in_err-row-2.result ≡ Err e = search found_alone in
    ap answered answer
    ∙ row_stops wrong_length _ _ (c.in_err-row-2.ensures ∙ ap (row wrong_length) c.is_sound_length.ensures) (never-accepted e)
    ∙ row_passes small_area _ _ (λ e. omega arith) (c.in_ok-row.ensures ∙ ap (row small_area) c.are_roomy.ensures)

pub returns-in_err-row-3 : goal.returns-in_err-row-3
unfolding first_row
returns-in_err-row-3 c =
    let e = c.in_err-row-3.field-0.0 in
    let answer : c.from_residual-in_err-row-3.result ≡ Err e = search found_alone in
    ap answered answer
    ∙ row_stops wrong_type _ _ (c.in_err-row-3.ensures ∙ ap (row wrong_type) (c.is_hosts.ensures ∙ ap is_hosts c.byte_at-kind.ensures)) (never-accepted e)
    ∙ row_passes wrong_length _ _ (λ e. omega arith) (c.in_ok-row-2.ensures ∙ ap (row wrong_length) c.is_sound_length.ensures)
    ∙ row_passes small_area _ _ (λ e. omega arith) (c.in_ok-row.ensures ∙ ap (row small_area) c.are_roomy.ensures)

pub returns : goal.returns
unfolding first_row row
returns c =
    let l = c.args.self in
    let byte = c.byte_at-kind.ensures in
    c.row-4.ensures ∙ ap (row wrong_time) (c.is_timely.ensures (view l) refl (c.is_some-pending.ensures ∙ is_pending_lem l l.flow.pending) ∙ ap (λ k. is_timely k (view l)) byte)
    ∙ row_passes wrong_type _ _ (λ e. omega arith) (c.in_ok-row-3.ensures ∙ ap (row wrong_type) (c.is_hosts.ensures ∙ ap is_hosts byte))
    ∙ row_passes wrong_length _ _ (λ e. omega arith) (c.in_ok-row-2.ensures ∙ ap (row wrong_length) c.is_sound_length.ensures)
    ∙ row_passes small_area _ _ (λ e. omega arith) (c.in_ok-row.ensures ∙ ap (row small_area) c.are_roomy.ensures)
