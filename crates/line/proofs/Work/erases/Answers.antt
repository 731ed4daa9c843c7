use mathlib.Core.Path.{◌∙◌}
use native.Mathlib.Omega.{arith}
use borrow.Author.Tests.{eq-eqb, ne_eqb}
use Rattle.rules.specs.Turns.{edited}
use Rattle.rules.specs.Steps.{erases}
use Rattle.line.proofs.Turns.{first_does, second_does, told_does}
use Rattle.line.proofs.InputAppended.{input_empty}
use Rattle.line.proofs.LentText.{room_reading}
use Rattle.line.proofs.Work.erases.Goals as goal

pub underflows-requires : goal.underflows-requires
underflows-requires c = let pre = c.requires in record { has_room = pre.has_room }

pub returns-then-count-eq0 : goal.returns-then-count-eq0
unfolding erases
returns-then-count-eq0 c =
    let a = c.args in
    let empty = input_empty a.r a.text.now (room_reading c.args.text.now c.told-text c.args.t c.args.r c.requires.has_room) ∙ eq-eqb _ 0 c.if-count-eq0.true in
    let done = c.underflows.ensures in
    record { rule = λ l. first_does _ _ empty (done.rule l) }

pub deletes-requires : goal.deletes-requires
deletes-requires c =
    let pre = c.requires in
    record { input_len_bound = omega (arith, pre.has_room.room, pre.has_room.largest); left_bound = pre.left_bound }

pub returns : goal.returns
unfolding erases
returns c =
    let a = c.args in
    let some = input_empty a.r a.text.now (room_reading c.args.text.now c.told-text c.args.t c.args.r c.requires.has_room) ∙ ne_eqb _ 0 c.if-count-eq0.false in
    let done = c.deletes.ensures in
    record { rule = λ l. second_does _ _ some (told_does _ (done.rule edited l _)) }
