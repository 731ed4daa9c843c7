use mathlib.Core.Path.{refl, sym}
use native.Mathlib.Omega.{arith}
use Rattle.line.specs.View.{token_of}
use Rattle.line.specs.With.{lent}
use Rattle.rules.specs.Steps.{ends_by_token}
use Rattle.rules.proofs.Numbers.{waiting_byte}
use Rattle.line.proofs.Turns.{then_does}
use Rattle.line.proofs.TokenBytes.{token-length, token_counted}
use Rattle.line.proofs.FlowChanges.{here_rule, completes_as, cleared_does, ended_does}
use Rattle.line.proofs.LentText.{lent_reading}
use Rattle.line.proofs.Work.ends_by_token.Goals as goal

pub slice_bounds-push_all-end : goal.slice_bounds-push_all-end
slice_bounds-push_all-end c = token-length c.args.self.flow.typed c.args.self.counted.typed

pub push_all-next-requires : goal.push_all-next-requires
push_all-next-requires c =
    let long = token-length c.args.self.flow.typed c.args.self.counted.typed in
    record { counted_reading = lent_reading c.args.text.now c.told-text c.args.r (omega (arith, c.requires.prompt_len_bound)); cs_bound = omega (arith, c.requires.prompt_len_bound) }

pub token_completion-by-requires : goal.token_completion-by-requires
token_completion-by-requires c = c.args.self.counted.typed

pub overflow_cast-size-2 : goal.overflow_cast-size-2
overflow_cast-size-2 c = omega (arith, c.args.self.counted.typed.token_length, waiting_byte)

pub completes-requires : goal.completes-requires
completes-requires c =
    let self = c.args.self in
    let next = c.push_all-next.ensures in
    let typed = c.with_typed-ready.ensures in
    let long = token-length self.flow.typed c.args.self.counted.typed in record { input_len_bound = omega (arith, next.count, c.requires.prompt_len_bound); ending_bound = omega (arith, next.count) }

pub returns : goal.returns
unfolding ends_by_token token_of
returns c =
    let a = c.args in
    let typed = a.self.flow.typed in
    let long = token-length typed c.args.self.counted.typed in
    let next = c.push_all-next.ensures in
    let done = c.completes in record {
      rule = λ l x.
          let line = lent a.t a.text.now l in
          ended_does done.result a.t a.text.now _ l done.ensures.ended
          (here_rule refl
          (then_does (cleared_does a.self c.with_typed-ready.ensures c.without_token-without.ensures line x _)
          (completes_as c.token_completion-by.ensures (sym (token_counted typed c.args.self.counted.typed))
          (next.same a.t l (omega (arith, c.requires.prompt_len_bound))) (done.ensures.rule line l x))));
    }
