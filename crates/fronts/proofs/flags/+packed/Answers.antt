use Rattle.std.proofs.Common.{rules, ◌∙◌, ◌+◌, ◌*◌, arith}
use Rattle.fronts.proofs.Packing.{first_packed, none_packed, packs_above}
use Rattle.fronts.proofs.flags.+packed.Goals as goal

pub packed-requires : goal.packed-requires
packed-requires t c = (search rules, packs_above _ c.in-len1-up.len_at_least c.requires)

pub overflow_mul-result : goal.overflow_mul-result
overflow_mul-result t c =
    let sum = (λ i. c.from.ensures i + c.from-in-len1-up.ensures i * c.packed.ensures i) ∙ first_packed _ c.in-len1-up.len_at_least in
    omega (arith, sum, c.requires.small)

pub overflow_add-result : goal.overflow_add-result
overflow_add-result t c =
    let sum = (λ i. c.from.ensures i + c.from-in-len1-up.ensures i * c.packed.ensures i) ∙ first_packed _ c.in-len1-up.len_at_least in
    omega (arith, sum, c.requires.small)

pub returns-in-empty : goal.returns-in-empty
returns-in-empty t c = none_packed _ c.in-empty.len_below

pub returns-in-len1-up : goal.returns-in-len1-up
returns-in-len1-up t c =
    (λ i. c.from.ensures i + c.from-in-len1-up.ensures i * c.packed.ensures i) ∙ first_packed _ c.in-len1-up.len_at_least
