use mathlib.Core.Path.{refl, sym, subst}
use Rattle.line.specs.Acts.{Doable}
use Rattle.line.proofs.HostAccepted.{startables}
use Rattle.line.proofs.HostDone.{set_counted, host_answers}
use Rattle.line.proofs.Line.obeys.Goals as goal

pub set_by-next-requires : goal.set_by-next-requires
set_by-next-requires c =
    let a = c.args in
    record { counted = c.requires.bounded.counted; startable_message = startables a.self a.s.now a.m c.requires.accepted }

pub act_of-act-requires : goal.act_of-act-requires
act_of-act-requires c =
    let a = c.args in
    (set_counted a.s.now a.self c.set_by-next.result a.m c.requires.bounded.counted c.set_by-next.ensures).flow.typed

pub acts_on_host-done-requires : goal.acts_on_host-done-requires
acts_on_host-done-requires c =
    let a = c.args in
    let set = c.set_by-next in
    let next = set.result in
    let counted = set_counted a.s.now a.self next a.m c.requires.bounded.counted set.ensures in
    let doable = subst (Doable a.s.now next.flow next.terms) (sym (c.act_of-act.ensures.obeys a.m refl)) (startables a.self a.s.now a.m c.requires.accepted) in
    record { prompt_len_bound = counted.prompt; doable = doable; act_value = c.act_of-act.ensures.kind }

pub returns : goal.returns
returns c =
    let a = c.args in
    let set = c.set_by-next in
    let report = c.reports in
    let act = c.act_of-act.ensures.obeys a.m refl in
    let done = c.acts_on_host-done in
    let counted = set_counted a.s.now a.self set.result a.m c.requires.bounded.counted set.ensures in
    host_answers a.s.now a.terminal.now a.messages.now _ _ _ _ a.self set.result report.result done.result a.m c.requires.bounded counted.flow c.requires.accepted c.requires.messages_value
    set.ensures report.ensures act done.ensures.rule counted.text
