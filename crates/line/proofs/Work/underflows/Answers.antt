use mathlib.Core.Path.{refl}
use native.Mathlib.Omega.{arith}
use borrow.Author.Tests.{eq-eqb, ne_eqb}
use Rattle.rules.specs.Steps.{underflows}
use Rattle.line.specs.With.{lent}
use Rattle.line.proofs.Turns.{first_does, second_does, told_does, only_does, not_does, still_does}
use Rattle.line.proofs.FlowChanges.{completes_as, ended_does}
use Rattle.line.proofs.LentText.{room_reading}
use Rattle.line.proofs.Work.underflows.Goals as goal

pub push-next-requires : goal.push-next-requires
push-next-requires c = let pre = c.requires in record { counted_reading = room_reading c.args.text.now c.told-text c.args.t c.args.r pre.has_room; input_len_bound = omega (arith, pre.has_room.room, pre.has_room.largest) }

pub completes-requires : goal.completes-requires
completes-requires c =
    let pre = c.requires in
    let next = c.push-next.ensures in
    record { input_len_bound = omega (arith, next.count, pre.has_room.room, pre.has_room.largest); ending_bound = omega (arith, next.count) }

pub returns-then-underflow-eq-UNDERFLOW_COMPLETES : goal.returns-then-underflow-eq-UNDERFLOW_COMPLETES
unfolding underflows
returns-then-underflow-eq-UNDERFLOW_COMPLETES c =
    let a = c.args in
    let room = c.requires.has_room in
    let next = c.push-next.ensures in
    let done = c.completes in record {
      rule = λ l.
          ended_does done.result a.t a.text.now _ l done.ensures.ended
          (first_does _ _ (eq-eqb _ 2 c.if-underflow-eq-UNDERFLOW_COMPLETES.true)
          (completes_as refl refl (next.same a.t l (omega (arith, room.room, room.largest, room.prompt)))
          (done.ensures.rule (lent a.t a.text.now l) l _)));
    }

pub returns-then-underflow-eq-UNDERFLOW_RINGS : goal.returns-then-underflow-eq-UNDERFLOW_RINGS
unfolding underflows
returns-then-underflow-eq-UNDERFLOW_RINGS c =
    let a = c.args in
    let belled = c.put.ensures in record {
      rule = λ l.
          second_does _ _ (ne_eqb _ 2 c.if-underflow-eq-UNDERFLOW_COMPLETES.false)
          (told_does _ (only_does _ (eq-eqb _ 1 c.if-underflow-eq-UNDERFLOW_RINGS.true) (belled.rule (lent a.t a.text.now l) _)));
    }

pub returns : goal.returns
unfolding underflows
returns c =
    let pre = c.requires in record { rule = λ l. second_does _ _ (ne_eqb _ 2 c.if-underflow-eq-UNDERFLOW_COMPLETES.false) (told_does _ (not_does _ (ne_eqb _ 1 c.if-underflow-eq-UNDERFLOW_RINGS.false) (still_does _ _ _))) }
