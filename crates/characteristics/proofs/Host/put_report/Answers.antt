use mathlib.Core.Path.{◌≡◌, sym, ◌∙◌}
use Prim.Native.Nat.{◌+◌, ◌-◌, ◌≤◌}
use native.Mathlib.Omega.{arith}
use lib.ListN.{length}
use Rattle.rules.specs.Numbers.{message_area}
use Rattle.rules.specs.Messages.Layout.{fields_in, number_of, write_groups}
use Rattle.rules.specs.Messages.Forms.{forms, form_of}
use Rattle.rules.specs.State.{fresh}
use Rattle.rules.proofs.Numbers.{area_word}
use Rattle.rules.proofs.Choice.{pick_true, pick-false}
use Rattle.message.specs.Found.{held_in}
use Rattle.fronts.specs.Front.{front_bytes, front_tail}
use Rattle.writing.specs.Spans.{spans_of}
use Rattle.areas.proofs.Putting.{nothing, equals, joins}
use Rattle.characteristics.specs.View.{host_view}
use Rattle.characteristics.specs.Lists.{answers_from, report_bytes}
use Rattle.characteristics.proofs.ReportLaws.{answer_bytes, own_size}
use Rattle.characteristics.proofs.Host.put_report.Goals as goal
use Rattle.characteristics.proofs.Host.put_report.Goals.{After-report_size-size}

-- the size that the code has is the answer's own
sized : (c : After-report_size-size) →
    let args = c.args in
    (c.report_size-size.result ≡ 4 + length (answers_from 0 args.list.now (host_view args.self))) × (c.report_size-size.result ≤ message_area)
sized c =
    let args = c.args in
    own_size args.list.now (host_view args.self) fresh (sym (c.carries_questions.ensures fresh) ∙ c.if-not-carries_questions.false)
    (c.report_size-size.ensures (host_view args.self))

pub returns-then-not-carries_questions : goal.returns-then-not-carries_questions
unfolding report_bytes
returns-then-not-carries_questions c = equals (sym (pick-false _ _ (sym (c.carries_questions.ensures fresh) ∙ c.if-not-carries_questions.true))) nothing

pub overflow_sub-parameters : goal.overflow_sub-parameters
overflow_sub-parameters c = omega (arith, (sized c).0)

pub overflow_cast-parameters : goal.overflow_cast-parameters
overflow_cast-parameters c = omega (arith, area_word, (sized c).1)

pub returns : goal.returns
unfolding report_bytes spans_of held_in front_bytes front_tail form_of forms write_groups number_of fields_in
returns c =
    let args = c.args in
    equals
    (answer_bytes args.list.now (host_view args.self) (2 + (c.report_size-size.result - 4) + 0 + 0) (omega (arith, (sized (goal.at.returns c).After-report_size-size).0)) ∙
    sym (pick_true _ _ (sym (c.carries_questions.ensures fresh) ∙ c.if-not-carries_questions.false)))
    (joins c.put_framed.ensures.front c.put_answers.ensures)
