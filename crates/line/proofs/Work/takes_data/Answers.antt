use Prim.Native.Nat.{ℕ, ◌+◌}
use mathlib.Core.List.{List, []}
use mathlib.Core.Path.{refl, sym, ap, ◌∙◌}
use native.Mathlib.Omega.{arith}
use borrow.Author.Tests.{eq-eqb, ne_eqb}
use Rattle.rules.specs.Steps.{echoes_if, takes_data}
use Rattle.rules.proofs.Numbers.{input_word}
use Rattle.line.specs.With.{lent}
use Rattle.line.proofs.InputAppended.{end_is}
use Rattle.line.proofs.Turns.{then_does, only_does, not_does, still_does}
use Rattle.line.proofs.FlowChanges.{completes_as, text_does, here_rule, same_writes, blank_does}
use Rattle.line.proofs.LentText.{room_reading}
use Rattle.line.specs.declared.Line.{Line}
use Rattle.line.specs.Promise.{on, Does}
use Rattle.rules.specs.State.{codes}
use Rattle.rules.proofs.Choice.{pick_true, pick-false}
use Rattle.line.proofs.Work.takes_data.Goals as goal
use Rattle.line.proofs.Work.takes_data.Goals.{After-end, then-t, else-t}

pub push-next-requires : goal.push-next-requires
push-next-requires c = let pre = c.requires in record { counted_reading = room_reading c.args.text.now c.told-text c.args.t c.args.r pre.has_room; input_len_bound = omega (arith, pre.has_room.room, pre.has_room.largest) }

pub overflow_add-end : goal.overflow_add-end
overflow_add-end c = let room = c.requires.has_room in omega (arith, c.end.ensures, room.room, room.largest, input_word)

pub completes-requires : goal.completes-requires
completes-requires c =
    let pre = c.requires in
    let next = c.push-next.ensures in
    let room = pre.has_room in record { input_len_bound = omega (arith, next.count, room.room, room.largest); ending_bound = omega arith }

-- the echo, where the read echoes
echoed : (c : After-end) (l : Line) (m : List ℕ) →
    Does (echoes_if codes c.args.t.echoes c.args.c) (on (lent c.args.t c.push-next.new.text l) c.with_read-shown.result) c.args.terminal.now m
    (on (lent c.args.t c.push-next.new.text l) c.if-t.shown) c.if-t.terminal m
unfolding echoes_if
echoed c l m =
    elim c.if-t.branch [
      | then-t w ↦ rw (w.shown-is, w.terminal-is) (here_rule refl (same_writes (sym (pick_true _ [] w.if-t.true)) (w.echo-shown.ensures.rule (lent c.args.t c.push-next.new.text l) m)))
      | else-t w ↦ rw (w.shown-is, w.terminal-is) (here_rule refl (blank_does _ _ m (pick-false _ [] w.if-t.false)))
    ]

pub returns-then-end-t : goal.returns-then-end-t
unfolding takes_data
returns-then-end-t c =
    let a = c.args in
    let text = a.text.now in
    let room = c.requires.has_room in
    let next = c.push-next in
    let done = c.completes.ensures in record {
      rule = λ l.
          let same = next.ensures.same a.t l (omega (arith, room.room, room.largest, room.prompt)) in
          let full = eq-eqb _ _ (ap (λ n. n + 1) (sym (end_is a.t text l a.r (room_reading c.args.text.now c.told-text c.args.t c.args.r c.requires.has_room))) ∙ ap (λ n. n + 1) (sym c.end.ensures) ∙ c.if-end-t.true) in
          let line = lent a.t _ l in
          then_does (text_does a.self next.result c.with_read-shown.ensures a.t text _ l same _ _)
          (then_does (echoed (goal.at.returns-then-end-t c).After-end l _) (only_does _ full (completes_as refl refl same (done.rule line l _))));
    }

pub returns : goal.returns
unfolding takes_data
returns c =
    let a = c.args in
    let text = a.text.now in
    let room = c.requires.has_room in
    let next = c.push-next in
    record {
      rule = λ l.
          let same = next.ensures.same a.t l (omega (arith, room.room, room.largest, room.prompt)) in
          let end = end_is a.t text l a.r (room_reading c.args.text.now c.told-text c.args.t c.args.r c.requires.has_room) in
          let more = ne_eqb _ _ (λ e. c.if-end-t.false (ap (λ n. n + 1) (c.end.ensures ∙ end) ∙ e)) in
          then_does (text_does a.self next.result c.with_read-shown.ensures a.t text _ l same _ _)
          (then_does (echoed (goal.at.returns c).After-end l _) (not_does _ more (still_does _ _ _)));
    }
