use mathlib.Core.Path.{refl}
use mathlib.Core.List.{[]}
use Rattle.rules.specs.State.{codes}
use Rattle.rules.specs.Steps.{steps}
use Rattle.rules.specs.Calls as rules
use Rattle.rules.specs.Calls.{answers}
use Rattle.rules.specs.Bounds.{is_byte_event}
use Rattle.line.specs.Events.{event_rule}
use Rattle.line.proofs.ActsDone.{act_doable, act_done, acted_answers}
use Rattle.line.proofs.Line.step.Goals as goal

pub acts_on_step-done-requires : goal.acts_on_step-done-requires
unfolding event_rule
acts_on_step-done-requires c =
    let l = c.args.self in
    let act = c.act_if-act.ensures in
    record { doable = act_doable {rule = steps codes} l 0 0 c.requires.counted (λ y. act.rule [] l y (c.look_up_for_step-lookup.ensures [] l c.requires refl refl)) act.none; act_value = act.kind }

pub returns : goal.returns
unfolding answers is_byte_event event_rule
returns c =
    let a = c.args in
    let l = a.self in
    let act = c.act_if-act.ensures in
    let done = c.acts_on_step-done in
    acted_answers rules.step l c.requires a.terminal.now a.messages.now (steps codes) refl refl refl c.are_roomy-roomy.ensures
    (act_done l 0 0 c.requires.counted (λ y. act.rule [] l y (c.look_up_for_step-lookup.ensures [] l c.requires refl refl)) act.none
    done.result _ _ _ _ c.move_keys.ensures done.ensures.sized (done.ensures.rule l) done.ensures.none)
    c.row_of.ensures
