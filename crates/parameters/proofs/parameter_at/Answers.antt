use Rattle.std.proofs.Common.{ap, ap₂, ◌∙◌, map, drop, bit_and}
use native.Mathlib.Omega.{arith}
use Rattle.rules.specs.Messages.Parameters.{limits_of}
use Rattle.parameters.specs.Lists.{mask}
use Rattle.parameters.proofs.Shapes.{nothing_is, parameter_is}
use Rattle.parameters.proofs.parameter_at.Goals as goal

pub returns-then-s-at : goal.returns-then-s-at
returns-then-s-at c =
    let a = c.args in
    let none = c.default.ensures in
    nothing_is a.kind a.at a.s.now (omega arith) none.0 none.1.0 none.1.1.0 none.1.1.1.0

pub returns : goal.returns
returns c =
    let a = c.args in
    parameter_is a.kind a.at a.s.now
    (c.masks_at-masks.ensures ∙ ap (λ shape. map mask (limits_of shape (drop a.at a.s.now))) c.of.ensures)
    (omega arith) (λ i. omega (arith, c.type_inv.s i)) c.word_at.ensures
    (ap₂ bit_and c.byte_at.ensures c.byte_at-2.ensures)
    (ap₂ bit_and c.byte_at-3.ensures c.byte_at-4.ensures)
    (ap₂ bit_and c.byte_at-5.ensures c.byte_at-6.ensures)
