use native.Mathlib.Omega.{arith}
use Rattle.line.specs.KeyArray.{shifted}
use Rattle.line.proofs.PendingRead.{key_room, key_then}
use Rattle.line.proofs.Work.takes.Goals as goal

pub takes_key-taken-requires : goal.takes_key-taken-requires
takes_key-taken-requires c =
    let can = c.requires.can_take_key in
    let room = key_room c.args.r c.with_idle-read.ensures c.args.t can.room in
    record { keys_len_nonzero = can.waits; input_len_bound = omega (arith, room.room, room.largest) }

pub adds_to_token-requires : goal.adds_to_token-requires
adds_to_token-requires c =
    let k = c.takes_key-taken.ensures in
    let can = c.requires.can_take_key in
    record { has_room = key_room c.args.r c.with_idle-read.ensures c.args.t can.room; token_len_bound = omega (arith, k.token, can.short) }

pub terminates-requires : goal.terminates-requires
terminates-requires c =
    record { has_room = key_room c.args.r c.with_idle-read.ensures c.args.t c.requires.can_take_key.room }

pub edits-requires : goal.edits-requires
edits-requires c =
    record { has_room = key_room c.args.r c.with_idle-read.ensures c.args.t c.requires.can_take_key.room }

pub takes_data-requires : goal.takes_data-requires
takes_data-requires c =
    record { has_room = key_room c.args.r c.with_idle-read.ensures c.args.t c.requires.can_take_key.room }

pub returns-in-Token : goal.returns-in-Token
returns-in-Token c =
    let a = c.args in
    let done = c.adds_to_token.ensures in
    record { rule = λ l size. key_then a.r c.with_idle-read.ensures c.takes_key-taken.ensures c.in-Token.is a.t a.text.now l size (done.rule (shifted a.self.flow l) _) }

pub returns-in-Terminator : goal.returns-in-Terminator
returns-in-Terminator c =
    let a = c.args in
    let done = c.terminates.ensures in
    record { rule = λ l size. key_then a.r c.with_idle-read.ensures c.takes_key-taken.ensures c.in-Terminator.is a.t a.text.now l size (done.rule (shifted a.self.flow l)) }

pub returns-in-Edit : goal.returns-in-Edit
returns-in-Edit c =
    let a = c.args in
    let done = c.edits.ensures in
    record { rule = λ l size. key_then a.r c.with_idle-read.ensures c.takes_key-taken.ensures c.in-Edit.is a.t a.text.now l size (done.rule (shifted a.self.flow l)) }

pub returns-in-Data : goal.returns-in-Data
returns-in-Data c =
    let a = c.args in
    let done = c.takes_data.ensures in
    record { rule = λ l size. key_then a.r c.with_idle-read.ensures c.takes_key-taken.ensures c.in-Data.is a.t a.text.now l size (done.rule (shifted a.self.flow l)) }
