use mathlib.Core.Path.{refl}
use mathlib.Core.List.{[]}
use Rattle.line.specs.With.{lent}
use Rattle.line.proofs.Turns.{still_does}
use Rattle.line.proofs.ActsDone.{done_as, moved, rest, unread, pending_done}
use borrow.Enum.Refused.{opened}
use Rattle.line.proofs.Work.acts_on_tick.Goals as goal

pub returns-in-TimesOut : goal.returns-in-TimesOut
returns-in-TimesOut c =
    let a = c.args in
    let done = c.completes.ensures in
    let e = c.in-TimesOut.is in
    record { rule = λ l terminal. done_as [] a.t l a.self c.completes.result e (λ size p. pending_done _ c.in-Some.is (done.rule (lent a.t a.text.now l) l _)); none = λ n. absurd (moved e tt n) }

pub returns-in-Idles : goal.returns-in-Idles
returns-in-Idles c =
    let a = c.args in
    let done = c.sets_idle.ensures in
    let e = c.in-Idles.is in
    record { rule = λ l terminal. done_as [] a.t l a.self c.sets_idle.result e (λ size p. pending_done _ c.in-Some.is (done.rule (lent a.t a.text.now l) _ _)); none = λ n. absurd (moved e tt n) }

pub returns-in_default : goal.returns-in_default
returns-in_default c =
    let a = c.args in
    record {
      rule = λ l terminal. (unread [] a.t l a.self _ _ _ c.in_default.is a.act).tick c.requires.act_value;
      none = λ n. refl;
    }

pub returns-in_default-act : goal.returns-in_default-act
returns-in_default-act c =
    let a = c.args in
    let none = (rest a.act).tick c.requires.act_value (opened c.in_default-act.in_default-act-own.keys3) in
    record { rule = λ l terminal. done_as [] a.t l a.self a.self none (λ size p. still_does _ _ _); none = λ n. refl }
