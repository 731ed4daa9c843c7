use mathlib.Core.List.{reverse}
use mathlib.Core.Path.{◌≡◌, sym, ap, ◌∙◌}
use Prim.Native.Nat.{suc, ◌+◌, ◌-◌}
use native.Mathlib.Omega.{arith}
use lib.ListN.{length}
use lib.Seq.{take-length}
use Rattle.rules.specs.Editing.{leading}
use Rattle.line.specs.ReadChanges.{of_class}
use Rattle.line.proofs.WordDeletion.{before_more, before_stop}
use Rattle.line.proofs.input.end_before.Goals as goal

pub loop-last-init : goal.loop-last-init
loop-last-init c = let text = c.args.text.now in ap (λ ns. length text - leading (of_class c.args.word) (reverse ns)) (take-length text)

pub returns-then-not-is_of : goal.returns-then-not-is_of
returns-then-not-is_of c =
    let args = c.args in
    let last = c.loop-last.last in
    let e : last ≡ suc (last - 1) = omega arith in
    let same : last - 1 + 1 ≡ last = omega arith in
    same
    ∙ before_stop (of_class args.word) args.text.now last (last - 1) e (omega arith) (sym c.is_of.ensures ∙ c.if-not-is_of.true)
    ∙ c.loop-last.invariant

pub loop-last-preserved : goal.loop-last-preserved
loop-last-preserved c =
    let args = c.args in
    let last = c.loop-last.last in
    let e : last ≡ suc (last - 1) = omega arith in
    before_more (of_class args.word) args.text.now last (last - 1) e (omega arith) (sym c.is_of.ensures ∙ c.if-not-is_of.false) ∙ c.loop-last.invariant

pub returns : goal.returns
returns c =
    let inv = c.loop-last.invariant in
    omega arith
