use mathlib.Core.Path.{subst}
use Rattle.line.specs.Acts.{Doable}
use Rattle.line.proofs.Turns.{still_does}
use Rattle.line.proofs.ActsDone.{done_as, rest}
use borrow.Enum.Refused.{opened}
use Rattle.line.proofs.Work.acts_on_host.Goals as goal

pub obeys-requires : goal.obeys-requires
obeys-requires c =
    let pre = c.requires in
    let a = c.args in
    record { prompt_len_bound = pre.prompt_len_bound; startable_message = subst (Doable a.s.now a.self.flow a.t) c.in-Obeys.is pre.doable }

pub returns-in-Obeys : goal.returns-in-Obeys
returns-in-Obeys c =
    let a = c.args in
    let done = c.obeys.ensures in
    record { rule = λ l. done_as a.s.now a.t l a.self c.obeys.result c.in-Obeys.is (λ size p. done.rule l p) }

pub returns-in_default : goal.returns-in_default
returns-in_default c =
    let a = c.args in
    let none = (rest a.act).host c.requires.act_value (opened c.in_default.in_default-own.keys2) in
    record { rule = λ l. done_as a.s.now a.t l a.self a.self none (λ size p. still_does _ _ _) }
