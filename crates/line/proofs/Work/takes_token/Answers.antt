use Prim.Native.Nat.{◌+◌, ◌≤◌}
use mathlib.Core.Path.{refl}
use native.Mathlib.Omega.{arith}
use lib.ListN.{length}
use borrow.Author.Tests.{le-leb, lt-leb}
use Rattle.rules.specs.Editing.{end_of}
use Rattle.rules.specs.Steps.{takes_token}
use Rattle.rules.proofs.Numbers.{input_word, waiting_byte}
use Rattle.line.specs.View.{reading_of, token_of}
use Rattle.line.specs.With.{lent}
use Rattle.line.proofs.InputAppended.{end_is}
use Rattle.line.proofs.TokenBytes.{token_counted}
use Rattle.line.proofs.FlowChanges.{here_first, here_second}
use Rattle.line.proofs.LentText.{room_reading}
use Rattle.line.proofs.Work.takes_token.Goals as goal

pub overflow_add-end : goal.overflow_add-end
overflow_add-end c =
    let pre = c.requires in
    omega (arith, c.end.ensures, pre.has_room.room, pre.has_room.largest, c.args.self.counted.typed.token_length, input_word, waiting_byte)

pub ends_by_token-requires : goal.ends_by_token-requires
ends_by_token-requires c =
    let pre = c.requires in
    record { prompt_len_bound = omega (arith, c.end.ensures, c.if-end-typed.true, pre.has_room.largest, pre.has_room.prompt) }

pub returns-then-end-typed : goal.returns-then-end-typed
unfolding takes_token
returns-then-end-typed c =
    let a = c.args in
    let typed = a.self.flow.typed in
    let long = token_counted typed c.args.self.counted.typed in
    let ended = c.ends_by_token.ensures in record {
      rule = λ l x.
          let is = end_is a.t a.text.now l a.r (room_reading c.args.text.now c.told-text c.args.t c.args.r c.requires.has_room) in
          let fits : end_of (reading_of (lent a.t a.text.now l) a.r) + length (token_of typed) ≤ a.t.max_length =
          omega (arith, c.end.ensures, c.if-end-typed.true) in
          here_first _ refl (le-leb _ _ fits) (ended.rule l x);
    }

pub completes-requires : goal.completes-requires
completes-requires c = let pre = c.requires in record { input_len_bound = omega (arith, pre.has_room.room, pre.has_room.largest); ending_bound = omega arith }

pub returns : goal.returns
unfolding takes_token
returns c =
    let a = c.args in
    let typed = a.self.flow.typed in
    let long = token_counted typed c.args.self.counted.typed in
    let done = c.completes.ensures in record {
      rule = λ l x.
          let line = lent a.t a.text.now l in
          let is = end_is a.t a.text.now l a.r (room_reading c.args.text.now c.told-text c.args.t c.args.r c.requires.has_room) in
          let fits = lt-leb (end_of (reading_of line a.r) + length (token_of typed)) a.t.max_length (omega (arith, c.end.ensures, c.if-end-typed.false)) in
          here_second _ refl fits (done.rule line l x);
    }
