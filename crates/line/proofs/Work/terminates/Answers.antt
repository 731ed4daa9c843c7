use mathlib.Core.Path.{refl, sym}
use mathlib.Core.List.{[]}
use native.Mathlib.Omega.{arith}
use Rattle.rules.specs.Steps.{echoes_terminator_if, terminates}
use Rattle.rules.proofs.Choice.{pick_true, pick-false}
use Rattle.line.specs.With.{lent}
use Rattle.line.proofs.Turns.{then_does}
use Rattle.line.proofs.FlowChanges.{completes_as, ended_does, here_rule, same_writes, blank_does}
use Rattle.line.proofs.LentText.{room_reading}
use Rattle.line.proofs.Work.terminates.Goals as goal
use Rattle.line.proofs.Work.terminates.Goals.{then-t, else-t}

pub push-next-requires : goal.push-next-requires
push-next-requires c = let pre = c.requires in record { counted_reading = room_reading c.args.text.now c.told-text c.args.t c.args.r pre.has_room; input_len_bound = omega (arith, pre.has_room.room, pre.has_room.largest) }

pub completes-requires : goal.completes-requires
completes-requires c =
    let pre = c.requires in
    let next = c.push-next.ensures in
    let room = pre.has_room in record { input_len_bound = omega (arith, next.count, room.room, room.largest); ending_bound = omega (arith, next.count) }

pub returns : goal.returns
unfolding terminates echoes_terminator_if
returns c =
    let a = c.args in
    let room = c.requires.has_room in
    let next = c.push-next.ensures in
    let done = c.completes in record {
      rule = λ l.
          let line = lent a.t a.text.now l in
          ended_does done.result a.t a.text.now _ l done.ensures.ended
          (then_does
          (elim c.if-t.branch [
            | then-t w ↦ rw (w.shown-is, w.terminal-is) (here_rule refl (same_writes (sym (pick_true _ [] w.if-t.true)) (w.echo_terminator-shown.ensures.rule line _)))
            | else-t w ↦ rw (w.shown-is, w.terminal-is) (here_rule refl (blank_does _ _ _ (pick-false _ [] w.if-t.false)))
          ])
          (completes_as refl refl (next.same a.t l (omega (arith, room.room, room.largest, room.prompt))) (done.ensures.rule line l _)));
    }
