use mathlib.Core.Path.{refl}
use mathlib.Core.List.{[]}
use Rattle.rules.specs.State.{codes}
use Rattle.rules.specs.Steps.{ticks}
use Rattle.rules.specs.Calls as rules
use Rattle.rules.specs.Calls.{answers}
use Rattle.rules.specs.Bounds.{is_byte_event}
use Rattle.line.specs.Events.{event_rule}
use Rattle.line.proofs.ActsDone.{act_done, acted_answers}
use Rattle.line.proofs.Line.tick.Goals as goal

pub acts_on_tick-done-requires : goal.acts_on_tick-done-requires
acts_on_tick-done-requires c =
    let act = c.act_if-act.ensures in
    record { act_value = act.kind }

pub returns : goal.returns
unfolding answers is_byte_event event_rule
returns c =
    let a = c.args in
    let l = a.self in
    let act = c.act_if-act.ensures in
    let done = c.acts_on_tick-done in
    acted_answers rules.tick l c.requires a.terminal.now a.messages.now (ticks codes) refl refl refl c.are_roomy-roomy.ensures
    (act_done l 0 0 c.requires.counted (λ y. act.rule [] l y c.is_held-held.ensures) act.none
    done.result _ l.text _ _ c.move_keys.ensures c.requires.counted.text (done.ensures.rule l _) (λ n. (done.ensures.none n, refl)))
    c.row_of.ensures
