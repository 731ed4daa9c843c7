use mathlib.Core.Path.{refl, subst}
use mathlib.Core.List.{[]}
use Rattle.line.specs.With.{lent}
use Rattle.line.specs.Acts.{CanTakeKey, IsPending, Doable}
use Rattle.line.specs.ReadChanges.{HasRoom}
use Rattle.line.proofs.Turns.{still_does}
use Rattle.line.proofs.ActsDone.{done_as, moved, rest, unread, pending_done}
use borrow.Enum.Refused.{opened}
use Rattle.line.proofs.LentText.{text_full}
use Rattle.line.proofs.Work.acts_on_step.Goals as goal

pub takes_token-requires : goal.takes_token-requires
takes_token-requires c =
    let a = c.args in
    let doable = subst (Doable [] a.self.flow a.t) c.in-TakesToken.is c.requires.doable in
    record { has_room = subst (IsPending (HasRoom a.t)) c.in-Some.is doable }

pub takes-requires : goal.takes-requires
takes-requires c =
    let a = c.args in
    let doable = subst (Doable [] a.self.flow a.t) c.in-Takes.is c.requires.doable in
    record { can_take_key = subst (IsPending (λ q. CanTakeKey q a.self.flow a.t)) c.in-Some.is doable }

pub returns-in-TakesToken : goal.returns-in-TakesToken
returns-in-TakesToken c =
    let a = c.args in
    let done = c.takes_token.ensures in
    let e = c.in-TakesToken.is in
    record { sized = text_full _ c.takes_token.array_long; rule = λ l. done_as [] a.t l a.self c.takes_token.result e (λ size p. pending_done _ c.in-Some.is (done.rule l _)); none = λ n. absurd (moved e tt n) }

pub returns-in-Takes : goal.returns-in-Takes
returns-in-Takes c =
    let a = c.args in
    let done = c.takes.ensures in
    let e = c.in-Takes.is in
    record { sized = text_full _ c.takes.array_long; rule = λ l. done_as [] a.t l a.self c.takes.result e (λ size p. pending_done _ c.in-Some.is (done.rule l size)); none = λ n. absurd (moved e tt n) }

pub returns-in-TimesOut : goal.returns-in-TimesOut
returns-in-TimesOut c =
    let a = c.args in
    let done = c.completes.ensures in
    let e = c.in-TimesOut.is in
    record { sized = text_full _ c.told-text; rule = λ l. done_as [] a.t l a.self c.completes.result e (λ size p. pending_done _ c.in-Some.is (done.rule (lent a.t a.text.now l) l _)); none = λ n. absurd (moved e tt n) }

pub returns-in_default : goal.returns-in_default
returns-in_default c =
    let a = c.args in
    record {
      sized = text_full _ c.told-text;
      rule = λ l. (unread [] a.t l a.self _ _ _ c.in_default.is a.act).step c.requires.act_value c.requires.doable;
      none = λ n. (refl, refl);
    }

pub returns-in_default-act : goal.returns-in_default-act
returns-in_default-act c =
    let a = c.args in
    let none = (rest a.act).step c.requires.act_value (opened c.in_default-act.in_default-act-own.keys4) in
    record { sized = text_full _ c.told-text; rule = λ l. done_as [] a.t l a.self a.self none (λ size p. still_does _ _ _); none = λ n. (refl, refl) }
