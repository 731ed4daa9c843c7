use Rattle.std.proofs.Common.{◌<◌, length, arith, sym, ◌∙◌}
use lib.Seq.{length-take-le}
use Rattle.parameters.specs.Lists.{ParameterIs, setting_bytes}
use Rattle.areas.proofs.Putting.{turn, none_left}
use Rattle.writing.proofs.Settings.{whole_next, behind_two, within_five, first_setting, no_settings}
use Rattle.writing.proofs.lists.put_settings.Goals as goal
use Rattle.writing.proofs.lists.put_settings.Goals.{In-Some}

-- the parameter that the walk gives, at the loop's own place
inside : (c : In-Some) → c.loop-p.at < length c.args.t.now
inside c = rw (c.loop-p.invariant.3, c.loop-p.invariant.4) at c.in-Some.ensures.steps.2.0

here : (c : In-Some) → ParameterIs 11 c.loop-p.at c.args.t.now c.in-Some.p
here c =
    rw (c.loop-p.invariant.2, c.loop-p.invariant.3, c.loop-p.invariant.4) at c.in-Some.ensures.steps.2.1

pub overflow_sub-count-in-loop-p : goal.overflow_sub-count-in-loop-p
overflow_sub-count-in-loop-p c =
    let k = (goal.at.overflow_sub-count-in-loop-p c).In-Some in
    omega (arith, behind_two _ _ (inside k) c.loop-p.invariant.5 (here k))

pub slice_bounds-value-end : goal.slice_bounds-value-end
slice_bounds-value-end c =
    let k = (goal.at.slice_bounds-value-end c).In-Some in
    omega (arith, within_five _ _ (inside k) c.loop-p.invariant.5 (here k))

pub slice_bounds-put_setting-end : goal.slice_bounds-put_setting-end
slice_bounds-put_setting-end c =
    let k = (goal.at.slice_bounds-put_setting-end c).In-Some in
    sym (length-take-le _ _ (omega (arith, within_five _ _ (inside k) c.loop-p.invariant.5 (here k))))

pub loop-p-preserved : goal.loop-p-preserved
unfolding setting_bytes
loop-p-preserved c =
    let k = (goal.at.loop-p-preserved c).In-Some in
    let i = c.loop-p.invariant in
    let step = c.in-Some.ensures.steps in
    let first = first_setting _ _ (inside k) i.5 (here k) in
    (tt, tt, step.0 ∙ i.2, step.1 ∙ i.3, step.2.2, whole_next _ _ (inside k) i.5 (here k), turn first i.6 c.put_setting.ensures)

pub returns : goal.returns
returns c =
    let i = c.loop-p.invariant in
    none_left (no_settings _ _ (rw (i.3, i.4) at c.in-None.ensures.steps.2.0)) i.6
