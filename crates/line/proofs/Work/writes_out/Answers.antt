use mathlib.Core.Path.{refl}
use Rattle.rules.specs.Write.{locks_by, redisplays_if_asked, writes_out}
use Rattle.message.specs.Found.{write_in}
use Rattle.line.specs.With.{lent}
use Rattle.line.proofs.Turns.{then_does}
use Rattle.line.proofs.FlowChanges.{here_rule}
use Rattle.line.specs.Promise.{Progress, on, Does}
use Rattle.line.specs.declared.Line.{Line}
use Rattle.rules.specs.State.{codes}
use Prim.Native.Nat.{ℕ}
use mathlib.Core.List.{List}
use borrow.Author.Tests.{eq-eqb, ne_eqb}
use Rattle.line.proofs.PendingRead.{pending_within}
use Rattle.line.proofs.WriteLaws.{redisplays_now, redisplays_none, redisplays_not}
use Rattle.line.proofs.Work.writes_out.Goals as goal
use Rattle.line.proofs.Work.writes_out.Goals.{After-sets_locked-shown}

pub redisplays-shown-requires : goal.redisplays-shown-requires
redisplays-shown-requires c =
    let locked = c.sets_locked-shown.result in
    record { input_len_bound = pending_within locked.flow locked.counted c.in-Some.is; prompt_len_bound = c.requires.prompt_len_bound }

-- all but what is asked of a pending read
written : (c : After-sets_locked-shown) (l : Line) {r : Progress} {t' : List ℕ} →
    Does (redisplays_if_asked codes c.args.f.lock) (on (lent c.args.t c.args.text.now l) c.sets_locked-shown.result) c.writes_output-written.new.terminal
    c.sends_completion-said.new.messages r t' c.sends_completion-said.new.messages →
    Does (writes_out codes (write_in c.args.s.now c.args.f)) (on (lent c.args.t c.args.text.now l) c.args.self) c.args.terminal.now c.args.messages.now r t'
    c.sends_completion-said.new.messages
unfolding writes_out locks_by
written c l shown =
    let a = c.args in
    let text = c.span_of-data.ensures in
    let some = c.has_output-some.ensures a.s.now text in
    let line = lent a.t a.text.now l in
    here_rule refl
    (then_does (c.stops_discarding-kept.ensures.rule line _ _)
    (then_does (c.writes_output-written.ensures.rule a.s.now text line _)
    (then_does (c.sends_completion-said.ensures.rule (write_in a.s.now a.f) _ some refl line _)
    (then_does (c.sets_locked-shown.ensures.rule line _ _) shown))))

pub returns-in-Some : goal.returns-in-Some
returns-in-Some c =
    let a = c.args in
    let locked = c.sets_locked-shown.result in
    let shown = c.redisplays-shown.ensures in
    record { rule = λ l. written (goal.at.returns-in-Some c).After-sets_locked-shown l (redisplays_now (on (lent a.t a.text.now l) locked) a.f.lock (eq-eqb _ _ c.if-f-eq-REDISPLAY_AFTER.true) c.in-Some.is (shown.rule l _)) }

pub returns-in_default : goal.returns-in_default
returns-in_default c =
    let a = c.args in
    let locked = c.sets_locked-shown.result in
    record { rule = λ l. written (goal.at.returns-in_default c).After-sets_locked-shown l (redisplays_none (on (lent a.t a.text.now l) locked) a.f.lock (eq-eqb _ _ c.if-f-eq-REDISPLAY_AFTER.true) _ _ c.in_default.is) }

pub returns-else-f-eq-REDISPLAY_AFTER : goal.returns-else-f-eq-REDISPLAY_AFTER
returns-else-f-eq-REDISPLAY_AFTER c =
    let a = c.args in
    let locked = c.sets_locked-shown.result in
    record { rule = λ l. written (goal.at.returns-else-f-eq-REDISPLAY_AFTER c).After-sets_locked-shown l (redisplays_not (on (lent a.t a.text.now l) locked) a.f.lock _ _ (ne_eqb _ _ c.if-f-eq-REDISPLAY_AFTER.false)) }
