use Rattle.std.proofs.Common.{◌≡◌, ◌-◌, ◌+◌, ◌∙◌, arith}
use Rattle.settings.proofs.Walk.{section_goes_on, section_end}
use Rattle.settings.proofs.sections.section_behind.Goals as goal

pub loop-preserved : goal.loop-preserved
loop-preserved c =
    let left = c.args.n - c.loop.counter in
    let one : c.args.n - (c.loop.counter + 1) ≡ left - 1 = omega arith in
    rw one (section_goes_on left c.loop.rest.now (omega arith) c.kept_end-end.ensures ∙ c.loop.invariant)

pub returns : goal.returns
returns c = c.front.ensures ∙ section_end (c.args.n - c.loop.counter) c.loop.rest.now (omega arith) ∙ c.loop.invariant
