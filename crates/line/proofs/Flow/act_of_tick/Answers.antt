use mathlib.Core.Path.{refl, sym, ◌∙◌}
use lib.Dec.{ltb}
use Rattle.rules.specs.State.{codes}
use Rattle.rules.specs.Turns.{only}
use Rattle.rules.specs.Steps.{ticks_while, ticks}
use Rattle.line.proofs.ActChoice.{met, meets_pending, meets_none, meets_first, meets_second}
use Rattle.line.proofs.TokenBytes.{nothing_waits}
use Rattle.line.proofs.Flow.act_of_tick.Goals as goal

pub returns-in_default : goal.returns-in_default
unfolding ticks ticks_while
returns-in_default c = record { rule = λ s l held. meets_none (ticks_while codes) c.in_default.is (met tt); kind = refl }

pub returns-then-t-typed : goal.returns-then-t-typed
unfolding ticks ticks_while only
returns-then-t-typed c =
    let a = c.args in
    let pending = c.in-Some.is in record {
      rule = λ s l held.
          let quiet = nothing_waits a.self.typed c.requires held l.keys a.t.timed (ltb 0 a.t.timeout) in
          meets_pending (ticks_while codes) pending (meets_first _ refl (sym quiet ∙ c.if-t-typed.true) (c.act_of_idling.ensures.rule s l));
      kind = c.act_of_idling.ensures.kind;
    }

pub returns : goal.returns
unfolding ticks ticks_while only
returns c =
    let a = c.args in
    let pending = c.in-Some.is in record {
      rule = λ s l held.
          let quiet = nothing_waits a.self.typed c.requires held l.keys a.t.timed (ltb 0 a.t.timeout) in
          meets_pending (ticks_while codes) pending (meets_second _ refl (sym quiet ∙ c.if-t-typed.false) (met tt));
      kind = refl;
    }
