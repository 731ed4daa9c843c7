use mathlib.Core.Path.{◌≡◌, refl, sym, ap, ◌∙◌, subst}
use Prim.Native.Nat.{ℕ}
use native.Mathlib.Omega.{arith}
use mathlib.Core.Bool.{false, not}
use mathlib.Core.List.{List}
use borrow.Author.Tests.{eq-eqb}
use Rattle.rules.specs.State.{codes}
use Rattle.rules.specs.Turns.{still, only}
use Rattle.rules.specs.Steps.{takes_token, takes_first, steps_while, steps}
use Rattle.rules.proofs.Choice.{is_empty_nil}
use Rattle.line.specs.View.{view, reading_of}
use Rattle.line.specs.With.{on_flow, lent}
use Rattle.line.specs.declared.Line.{Line}
use Rattle.line.specs.declared.acts.Act.{Act}
use Rattle.line.specs.Acts.{CanTakeKey, IsPending, Meets}
use Rattle.line.specs.ReadChanges.{HasRoom}
use Rattle.line.proofs.ActChoice.{met, meets_read, meets_as, meets_pending, meets_none, meets_first, meets_second, meets_told}
use Rattle.line.proofs.KeyArrays.{keys_empty, first_key}
use Rattle.line.proofs.TokenBytes.{token_short}
use Rattle.line.proofs.PendingRead.{no_read, pending_read, pending_room}
use Rattle.line.proofs.Flow.act_of_step.Goals as goal

-- a step while the line is not locked
meets_unlocked : {s : List ℕ} {l : Line} {a : Act} → l.flow.terminal.locked ≡ false →
    Meets (λ v. steps_while codes v.pending_read v) s l a → Meets (steps codes) s l a
unfolding steps only
meets_unlocked e h = meets_first still refl (ap not e) (meets_as refl h)

pub returns-then-self : goal.returns-then-self
unfolding steps only
returns-then-self c = record { rule = λ s l k. meets_second _ refl (ap not c.if-self.true) (met tt); kind = refl }

pub returns-then-is_none : goal.returns-then-is_none
unfolding steps_while
returns-then-is_none c =
    let none = no_read c.args.self.pending (c.is_none.ensures ∙ ap not c.if-is_none.true) in
    record { rule = λ s l k. meets_unlocked c.if-self.false (meets_none (steps_while codes) none (met tt)); kind = refl }

pub returns-then-lookup : goal.returns-then-lookup
unfolding steps_while
returns-then-lookup c =
    let a = c.args in
    let found = pending_read a.self.pending (c.is_none.ensures ∙ ap not c.if-is_none.false) in
    let pending = found.is in record {
      rule = λ s l k.
          meets_unlocked c.if-self.false
          (meets_pending (steps_while codes) pending
          (meets_first _ refl (sym k.held ∙ c.if-lookup.true) (meets_read (λ q. takes_token codes (reading_of (lent a.t l.text l) q)) pending
          (met (subst (IsPending (HasRoom a.t)) (sym pending) (pending_room (on_flow a.self (lent a.t l.text l)) k.bounded pending))))));
      kind = refl;
    }

pub returns-then-self-eq0 : goal.returns-then-self-eq0
unfolding steps_while
returns-then-self-eq0 c =
    let a = c.args in
    let found = pending_read a.self.pending (c.is_none.ensures ∙ ap not c.if-is_none.false) in
    let pending = found.is in record {
      rule = λ s l k.
          let line = on_flow a.self (lent a.t l.text l) in
          let none = is_empty_nil _ (keys_empty a.self.typed.keys_len l.keys ∙ eq-eqb _ 0 c.if-self-eq0.true) in
          meets_unlocked c.if-self.false
          (meets_pending (steps_while codes) pending
          (meets_second _ refl (sym k.held ∙ c.if-lookup.false)
          (meets_as (ap (λ ks. takes_first codes ks (reading_of line found.read) (view line)) none) (c.act_without_key.ensures.rule s line found.read pending))));
      kind = c.act_without_key.ensures.kind;
    }

pub returns : goal.returns
unfolding steps_while takes_first
returns c =
    let a = c.args in
    let f = a.self in
    let found = pending_read a.self.pending (c.is_none.ensures ∙ ap not c.if-is_none.false) in
    let pending = found.is in
    let waiting = f.typed.keys_len in record {
      rule = λ s l k.
          let line = on_flow f (lent a.t l.text l) in
          let can : CanTakeKey found.read f a.t = record {
            room = pending_room line k.bounded pending;
            waits = omega (arith, c.if-self-eq0.false);
            short = token_short f.typed c.requires (sym k.held ∙ c.if-lookup.false);
          } in
          let head = first_key waiting l.keys (omega (arith, c.if-self-eq0.false)) in
          meets_unlocked c.if-self.false
          (meets_pending (steps_while codes) pending
          (meets_second _ refl (sym k.held ∙ c.if-lookup.false)
          (meets_as (ap (λ ks. takes_first codes ks (reading_of line found.read) (view line)) head) (meets_told _ (k.taken found.read pending can)))));
      kind = refl;
    }
