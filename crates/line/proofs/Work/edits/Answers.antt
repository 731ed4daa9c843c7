use Prim.Native.Nat.{◌-◌}
use mathlib.Core.Path.{sym, ap, ◌∙◌}
use native.Mathlib.Omega.{arith}
use borrow.Author.Tests.{eq-eqb, ne_eqb}
use Rattle.rules.specs.State.{codes}
use Rattle.rules.specs.Turns.{edited}
use Rattle.rules.specs.Steps.{erases, erases_all, shows_again, edits}
use Rattle.line.specs.View.{reading_of}
use Rattle.line.specs.With.{lent}
use Rattle.line.proofs.InputAppended.{input-length}
use Rattle.line.proofs.Turns.{first_does, second_does, told_does}
use Rattle.line.proofs.FlowChanges.{for_equal}
use Rattle.line.proofs.LentText.{text_full, room_reading}
use Rattle.line.proofs.Work.edits.Goals as goal

pub erases-requires : goal.erases-requires
erases-requires c = let pre = c.requires in record { has_room = pre.has_room; left_bound = omega (arith, c.left_by_delete-left.ensures) }

pub returns-then-c-eq-DELETE_KEY : goal.returns-then-c-eq-DELETE_KEY
unfolding edits
returns-then-c-eq-DELETE_KEY c =
    let a = c.args in
    let text = a.text.now in
    let left = c.left_by_delete-left.ensures ∙ ap (λ n. n - 1) (sym (input-length a.r.input_len text (omega (arith, c.requires.has_room.room, c.requires.has_room.largest, text_full text c.told-text)))) in
    let done = c.erases.ensures in record {
      rule = λ l.
          first_does _ _ (eq-eqb _ 127 c.if-c-eq-DELETE_KEY.true)
          (for_equal (λ n. erases codes n a.c (reading_of (lent a.t text l) a.r)) left (done.rule l));
    }

pub left_by_delete_word-left-requires : goal.left_by_delete_word-left-requires
left_by_delete_word-left-requires c = room_reading c.args.text.now c.told-text c.args.t c.args.r c.requires.has_room

pub erases-requires-then-c-eq-DELETE_WORD_KEY : goal.erases-requires-then-c-eq-DELETE_WORD_KEY
erases-requires-then-c-eq-DELETE_WORD_KEY c = let pre = c.requires in record { has_room = pre.has_room; left_bound = c.left_by_delete_word-left.ensures.within }

pub returns-then-c-eq-DELETE_WORD_KEY : goal.returns-then-c-eq-DELETE_WORD_KEY
unfolding edits
returns-then-c-eq-DELETE_WORD_KEY c =
    let a = c.args in
    let done = c.erases-then-c-eq-DELETE_WORD_KEY.ensures in record {
      rule = λ l.
          second_does _ _ (ne_eqb _ 127 c.if-c-eq-DELETE_KEY.false)
          (first_does _ _ (eq-eqb _ 23 c.if-c-eq-DELETE_WORD_KEY.true)
          (for_equal (λ n. erases codes n a.c (reading_of (lent a.t a.text.now l) a.r)) (c.left_by_delete_word-left.ensures.left_by a.t l) (done.rule l)));
    }

pub deletes-requires : goal.deletes-requires
deletes-requires c =
    let pre = c.requires in
    record { input_len_bound = omega (arith, pre.has_room.room, pre.has_room.largest); left_bound = omega arith }

pub returns-then-c-eq-DELETE_LINE_KEY : goal.returns-then-c-eq-DELETE_LINE_KEY
unfolding edits erases_all
returns-then-c-eq-DELETE_LINE_KEY c =
    let done = c.deletes.ensures in record {
      rule = λ l.
          second_does _ _ (ne_eqb _ 127 c.if-c-eq-DELETE_KEY.false)
          (second_does _ _ (ne_eqb _ 23 c.if-c-eq-DELETE_WORD_KEY.false)
          (first_does _ _ (eq-eqb _ 21 c.if-c-eq-DELETE_LINE_KEY.true) (told_does _ (done.rule edited l _))));
    }

pub redisplays-requires : goal.redisplays-requires
redisplays-requires c =
    let pre = c.requires in
    record {
      input_len_bound = omega (arith, pre.has_room.room, pre.has_room.largest);
      prompt_len_bound = omega (arith, pre.has_room.prompt, pre.has_room.room, pre.has_room.largest);
    }

pub returns : goal.returns
unfolding edits shows_again
returns c =
    let done = c.redisplays.ensures in record {
      rule = λ l.
          second_does _ _ (ne_eqb _ 127 c.if-c-eq-DELETE_KEY.false)
          (second_does _ _ (ne_eqb _ 23 c.if-c-eq-DELETE_WORD_KEY.false)
          (second_does _ _ (ne_eqb _ 21 c.if-c-eq-DELETE_LINE_KEY.false) (told_does _ (done.rule l _))));
    }
