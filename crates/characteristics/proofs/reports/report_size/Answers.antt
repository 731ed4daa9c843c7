use Rattle.std.proofs.Common.{ap, arith, length, ◌∙◌}
use Rattle.rules.proofs.Numbers.{message_area_lem, area_word}
use Rattle.characteristics.proofs.ReportLaws.{first_size, no_answers, answer_length}
use Rattle.characteristics.proofs.reports.report_size.Goals as goal

pub loop-p-init : goal.loop-p-init
loop-p-init c =
    let walk = c.new-p-items.ensures in
    rw c.into_iter-p-iterator.ensures.into_iter_gives
    (tt, tt, walk.kind, λ h. rw (walk.at, walk.list) (answer_length c.args.list.now h), omega (arith, message_area_lem))

pub overflow_add-size : goal.overflow_add-size
overflow_add-size c = omega (arith, area_word, c.loop-p.invariant.4)

pub returns-then-size-gt-MESSAGE_AREA : goal.returns-then-size-gt-MESSAGE_AREA
returns-then-size-gt-MESSAGE_AREA c h =
    let i = c.loop-p.invariant in
    let step = c.in-Some.ensures.steps in
    let is = rw i.2 at step.2.1 in
    omega (arith, c.if-size-gt-MESSAGE_AREA.true, message_area_lem, first_size is h step.2.0 c.loop-p.size (c.size_of_one-size.ensures.0 h _ is.selected) (i.3 h))

pub loop-p-preserved : goal.loop-p-preserved
loop-p-preserved c =
    let i = c.loop-p.invariant in
    let step = c.in-Some.ensures.steps in
    let is = rw i.2 at step.2.1 in (
      tt,
      tt,
      step.0 ∙ i.2,
      λ h. rw (step.1, step.2.2) (first_size is h step.2.0 c.loop-p.size (c.size_of_one-size.ensures.0 h _ is.selected) (i.3 h)),
      omega (arith, message_area_lem, c.if-size-gt-MESSAGE_AREA.false),
    )

pub returns : goal.returns
returns c h =
    let i = c.loop-p.invariant in
    let none = ap (λ bs. length bs) (no_answers _ h _ c.in-None.ensures.steps.2.0) in
    omega (arith, message_area_lem, i.3 h, i.4)
