use Rattle.std.proofs.Common.{◌≡◌, ◌-◌, ◌+◌, sym, ◌∙◌, arith}
use Rattle.settings.proofs.Walk.{whole_stops, whole_goes_on, whole_end}
use Rattle.settings.proofs.sections.are_whole.Goals as goal

pub returns-then-rest-end : goal.returns-then-rest-end
returns-then-rest-end c =
    let left = c.args.n - c.loop.counter in
    sym (whole_stops left c.loop.rest.now (omega arith) c.front_end-end.ensures c.if-rest-end.true) ∙ c.loop.invariant

pub loop-preserved : goal.loop-preserved
loop-preserved c =
    let left = c.args.n - c.loop.counter in
    let one : c.args.n - (c.loop.counter + 1) ≡ left - 1 = omega arith in
    rw one (whole_goes_on left c.loop.rest.now (omega arith) c.front_end-end.ensures c.if-rest-end.false ∙ c.loop.invariant)

pub returns : goal.returns
returns c = c.is_empty.ensures ∙ whole_end (c.args.n - c.loop.counter) c.loop.rest.now (omega arith) ∙ c.loop.invariant
