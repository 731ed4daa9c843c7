use Rattle.std.proofs.Common.{◌∙◌}
use Rattle.areas.proofs.Putting.{turn, none_left}
use Rattle.characteristics.specs.View.{host_view}
use Rattle.characteristics.proofs.ReportLaws.{first_answer, no_answers}
use Rattle.characteristics.proofs.Host.put_answers.Goals as goal

pub loop-p-preserved : goal.loop-p-preserved
loop-p-preserved c =
    let i = c.loop-p.invariant in
    let step = c.in-Some.ensures.steps in
    let is = rw i.2 at step.2.1 in
    let first = first_answer is (host_view c.args.self) step.2.0 in
    (tt, tt, step.0 ∙ i.2, rw (step.1, step.2.2) (turn first i.3 (c.put_answer.ensures _ _ is)))

pub returns : goal.returns
returns c =
    let i = c.loop-p.invariant in
    none_left (no_answers _ _ _ c.in-None.ensures.steps.2.0) i.3
