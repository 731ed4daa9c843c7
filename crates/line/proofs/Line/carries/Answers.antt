use mathlib.Core.Path.{refl, ap, ◌∙◌}
use Rattle.rules.specs.Choice.{pick}
use Rattle.rules.specs.Calls.{is_carried_by, carries_questions}
use Rattle.rules.specs.Characteristics.{carries_settings}
use Rattle.fields.specs.Spans.{span_of}
use Rattle.message.specs.Found.{held_in, start_read_in, write_in}
use Rattle.characteristics.specs.View as host
use Rattle.characteristics.specs.Lists.{settings_in, questions_in}
use Rattle.characteristics.proofs.Held.{held_settings, held_questions}
use Rattle.line.specs.View.{view, host_of}
use Rattle.rules.specs.State.{with_host}
use Rattle.line.proofs.HostAccepted.{carried_as, other_carried}
use Rattle.line.proofs.Line.carries.Goals as goal

pub returns-in-StartRead : goal.returns-in-StartRead
unfolding held_in start_read_in is_carried_by pick
returns-in-StartRead c =
    let a = c.args in
    carried_as a.s.now (view a.self) c.in-StartRead.is (start_read_in a.s.now _) refl (c.carries_start_read.ensures a.s.now)

pub returns-in-Write : goal.returns-in-Write
unfolding held_in is_carried_by pick
returns-in-Write c =
    let a = c.args in
    carried_as a.s.now (view a.self) c.in-Write.is (write_in a.s.now _) refl (c.carries_write.ensures a.s.now)

pub returns-in-ReadCharacteristics : goal.returns-in-ReadCharacteristics
unfolding is_carried_by pick
returns-in-ReadCharacteristics c =
    let a = c.args in
    carried_as a.s.now (view a.self) c.in-ReadCharacteristics.is (questions_in (span_of a.s.now _)) (held_questions _ _)
    (c.carries_questions.ensures (view a.self)
    ∙ ap (λ h. carries_questions (with_host (host.host_view h) (view a.self)) (questions_in c.span_of-list.result.now)) c.host_in-host.ensures
    ∙ ap (λ bs. carries_questions (view a.self) (questions_in bs)) c.span_of-list.ensures)

pub returns-in-Characteristics : goal.returns-in-Characteristics
unfolding is_carried_by pick
returns-in-Characteristics c =
    let a = c.args in
    carried_as a.s.now (view a.self) c.in-Characteristics.is (settings_in (span_of a.s.now _)) (held_settings _ _)
    (c.carries_settings.ensures
    ∙ ap (λ h. carries_settings (host.host_view h) (settings_in c.span_of-list-in-Characteristics.result.now)) c.host_in-host-in-Characteristics.ensures
    ∙ ap (λ bs. carries_settings (host_of a.self) (settings_in bs)) c.span_of-list-in-Characteristics.ensures)

pub returns-in_default : goal.returns-in_default
returns-in_default c = let a = c.args in other_carried a.s.now (view a.self) a.m c.in_default.in_default-own.keys5
