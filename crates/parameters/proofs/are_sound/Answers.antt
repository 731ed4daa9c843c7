use Rattle.std.proofs.Common.{rules, ◌≡◌, sym, ap, ◌∙◌, length, ◌&&◌, true, false}
use native.Mathlib.Omega.{arith}
use borrow.Author.Tests.{tests}
use lib.Dec.{leb}
use Rattle.rules.proofs.Bounds.Bytes.{bytes_all}
use Rattle.parameters.specs.Lists.{known_bytes, sound_from}
use Rattle.parameters.proofs.Shapes.{sound_turn, sound_end}
use Rattle.parameters.proofs.are_sound.Goals as goal
use Rattle.parameters.proofs.are_sound.Goals.{After-defines}

-- what a turn looks at, and what it leaves to the next ones
turn : (c : After-defines) →
    sound_from c.args.kind c.loop-p.p-iterator.at c.args.s.now ≡
    (leb c.in-Some.p.next (length c.args.s.now) && c.defines.result) && sound_from c.args.kind c.in-Some.p.next c.args.s.now
turn c =
    let a = c.args in
    let p = c.in-Some.p in
    let i = c.loop-p.invariant in
    let step = c.in-Some.ensures.steps in
    let bytes = bytes_all a.s.now (λ i. omega (arith, c.type_inv.s i)) in
    let inside = rw i.3 at step.2.0 in
    let is = rw (i.2, i.3) at step.2.1 in
    let own = c.defines.ensures ∙ ap (λ shape. shape.defined (known_bytes p)) c.of-list.ensures in
    sound_turn a.kind c.loop-p.p-iterator.at a.s.now bytes inside is ∙
    ap (λ t. (leb p.next (length a.s.now) && t) && sound_from a.kind p.next a.s.now) (sym own)

pub returns-then-not-sound : goal.returns-then-not-sound
returns-then-not-sound c =
    let a = c.args in
    let looked = turn (goal.at.returns-then-not-sound c).After-defines in
    let unsound : leb c.in-Some.p.next (length a.s.now) && c.defines.result ≡ false = search (rules, tests) in
    sym (c.loop-p.invariant.4 ∙ looked ∙ ap (λ t. t && sound_from a.kind c.in-Some.p.next a.s.now) unsound)

pub loop-p-preserved : goal.loop-p-preserved
loop-p-preserved c =
    let a = c.args in
    let i = c.loop-p.invariant in
    let step = c.in-Some.ensures.steps in
    let looked = turn (goal.at.loop-p-preserved c).After-defines in
    let sound : leb c.in-Some.p.next (length a.s.now) && c.defines.result ≡ true = search (rules, tests) in
    let left = ap (λ t. t && sound_from a.kind c.in-Some.p.next a.s.now) sound in
    (tt, tt, step.0 ∙ i.2, step.1 ∙ i.3, i.4 ∙ looked ∙ left ∙ ap (λ n. sound_from a.kind n a.s.now) (sym step.2.2))

pub returns : goal.returns
returns c =
    let a = c.args in
    let i = c.loop-p.invariant in
    sym (i.4 ∙ sound_end a.kind c.loop-p.p-iterator.at a.s.now (rw i.3 at c.in-None.ensures.steps.2.0))
