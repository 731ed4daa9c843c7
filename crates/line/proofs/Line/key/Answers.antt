use native.Mathlib.Omega.{arith}
use mathlib.Core.Path.{refl, ap, ◌∙◌}
use mathlib.Core.List.{[]}
use lib.ListN.{length}
use Rattle.line.specs.Events.{event_rule}
use Rattle.line.specs.With.{on_flow, on_keys}
use Rattle.line.proofs.KeyArrays.{after_length}
use Rattle.line.proofs.ActsDone.{act_doable, keystroke_doable, keystroke_answers}
use Rattle.line.proofs.Line.key.Goals as goal

pub acts_on_key-arrived-requires : goal.acts_on_key-arrived-requires
acts_on_key-arrived-requires c =
    let pre = c.requires in
    let l = c.args.self in
    let act = c.act_if-arrival.ensures in
    record { doable = act_doable l 0 0 pre.counted (λ y. act.rule [] l y (refl, refl)) act.none; act_value = act.kind }

pub move_keys-requires-2 : goal.move_keys-requires-2
move_keys-requires-2 c =
    let l = c.args.self in
    let kept = ap length c.move_keys.ensures ∙ after_length c.act_if-arrival.result l.flow.typed.keys_len l.keys in
    record { keys_len = kept ∙ c.requires.counted.keys; waiting_le_type_ahead_size = c.acts_on_key-arrived.result.counted.typed.keys_length }

pub acts_on_step-done-requires : goal.acts_on_step-done-requires
unfolding event_rule
acts_on_step-done-requires c =
    let a = c.args in
    let l = a.self in
    let arrived = c.acts_on_key-arrived in
    let act = c.act_if-act.ensures in
    let can = keystroke_doable a.code (omega (arith, c.well_formed)) l c.requires a.terminal.now a.messages.now (λ y. c.act_if-arrival.ensures.rule [] l y (refl, refl)) c.act_if-arrival.ensures.none
    arrived.result _ _ _ c.move_keys.ensures (arrived.ensures.rule l) arrived.ensures.none
    (λ y bounded. act.rule [] (on_keys _ l) y (c.look_up_for_step-lookup.ensures [] (on_keys _ l) bounded refl refl)) act.none in
    record { doable = can; act_value = act.kind }

pub returns : goal.returns
unfolding event_rule
returns c =
    let a = c.args in
    let l = a.self in
    let arrived = c.acts_on_key-arrived in
    let act = c.act_if-act.ensures in
    let done = c.acts_on_step-done in
    keystroke_answers a.code (omega (arith, c.well_formed)) l c.requires a.terminal.now a.messages.now (λ y. c.act_if-arrival.ensures.rule [] l y (refl, refl)) c.act_if-arrival.ensures.none
    arrived.result _ _ _ c.move_keys.ensures (arrived.ensures.rule l) arrived.ensures.none
    (λ y bounded. act.rule [] (on_keys _ l) y (c.look_up_for_step-lookup.ensures [] (on_keys _ l) bounded refl refl)) act.none
    c.are_roomy-roomy.ensures done.result _ _ _ _ c.move_keys-2.ensures done.ensures.sized
    (done.ensures.rule (on_flow arrived.result.flow (on_keys _ l))) done.ensures.none c.row_of.ensures
