use mathlib.Core.Path.{◌≡◌, refl, sym, ap, ◌∙◌}
use Prim.Native.Nat.{ℕ}
use native.Mathlib.Omega.{arith}
use mathlib.Core.List.{List}
use borrow.Author.Tests.{eq-eqb, ne_eqb}
use Rattle.rules.specs.State.{codes}
use Rattle.rules.specs.StartRead.Acceptance.{clears_first, feeds_line, auto_prompts, completes_if_full, begins}
use Rattle.message.specs.Found.{start_read_in}
use Rattle.line.specs.View.{reading_of}
use Rattle.line.specs.With.{lent}
use Rattle.line.proofs.Turns.{then_does, only_does, not_does, still_does}
use Rattle.line.proofs.FlowChanges.{here_only, here_not, for_equal}
use Rattle.line.specs.declared.Line.{Line}
use Rattle.line.specs.StartRead.{reading_at}
use Rattle.line.specs.Promise.{Progress, on, Does}
use Rattle.line.proofs.Work.begins.Goals as goal
use Rattle.line.proofs.Work.begins.Goals.{After-displays-displayed, then-f-eq-ON, else-f-eq-ON, then-f-begun, else-f-begun, then-t, else-t}

pub reading_at-r-requires : goal.reading_at-r-requires
reading_at-r-requires c = c.requires.startable.prompt

pub displays-displayed-requires : goal.displays-displayed-requires
displays-displayed-requires c =
    let pre = c.requires in
    let k = pre.startable in
    let count = ap (λ r. r.input_len) c.reading_at-r.ensures in
    record { input_len_bound = omega (arith, count, k.within, k.largest); prompt_len_bound = pre.prompt_len_bound }

pub completes-requires : goal.completes-requires
completes-requires c =
    let k = c.requires.startable in
    let count = ap (λ r. r.input_len) c.reading_at-r.ensures in
    record { input_len_bound = omega (arith, count, k.within, k.largest); ending_bound = omega arith }

module _ (c : After-displays-displayed) (l : Line) (m : List ℕ) where
  -- type-ahead, the LF and byte 1, each where it is wanted
  cleared : (a : List ℕ) → Does (clears_first (start_read_in c.args.s.now c.args.f)) (on l c.args.self) a m (on l c.if-f-eq-ON.begun) a m
  unfolding clears_first start_read_in
  cleared a =
      elim c.if-f-eq-ON.branch [
        | then-f-eq-ON w ↦ rw w.begun-is (only_does _ (eq-eqb _ _ w.if-f-eq-ON.true) (w.empties_typed-begun.ensures.rule l a m))
        | else-f-eq-ON w ↦ rw w.begun-is (not_does _ (ne_eqb _ _ w.if-f-eq-ON.false) (still_does _ a m))
      ]

  fed : Does (feeds_line (start_read_in c.args.s.now c.args.f)) (on l c.if-f-eq-ON.begun) c.args.terminal.now m (on l c.if-f-begun.begun) c.if-f-begun.terminal m
  unfolding feeds_line start_read_in
  fed =
      elim c.if-f-begun.branch [
        | then-f-begun w ↦ rw (w.begun-is, w.terminal-is) (here_only _ refl w.if-f-begun.true (w.put-begun.ensures.rule l m))
        | else-f-begun w ↦ rw (w.begun-is, w.terminal-is) (here_not _ _ m refl w.if-f-begun.false)
      ]

  prompted : c.args.t.auto_prompt ≡ l.switches.prompting → Does auto_prompts (on l c.if-f-begun.begun) c.if-f-begun.terminal m (on l c.if-t.begun) c.if-t.terminal m
  unfolding auto_prompts
  prompted e =
      elim c.if-t.branch [
        | then-t w ↦ rw (w.begun-is, w.terminal-is) (here_only _ refl (sym e ∙ w.if-t.true) (w.put-begun-then-t.ensures.rule l m))
        | else-t w ↦ rw (w.begun-is, w.terminal-is) (here_not _ _ m refl (sym e ∙ w.if-t.false))
      ]

-- all but the answer of a read whose buffer is full
begun : (c : After-displays-displayed) (l : Line) → c.args.t.auto_prompt ≡ l.switches.prompting → {r : Progress} {m' : List ℕ} →
    Does (completes_if_full codes (start_read_in c.args.s.now c.args.f) (reading_of (lent c.args.t c.args.text.now l) c.reading_at-r.result))
    (on (lent c.args.t c.args.text.now l) c.displays-displayed.result) c.displays-displayed.new.terminal c.args.messages.now r c.displays-displayed.new.terminal m' →
    Does
    (begins codes (start_read_in c.args.s.now c.args.f) (reading_of (lent c.args.t c.args.text.now l) (reading_at c.args.s.now c.args.f c.args.self.flow.terminal.screen.column)))
    (on (lent c.args.t c.args.text.now l) c.args.self) c.args.terminal.now c.args.messages.now r c.displays-displayed.new.terminal m'
unfolding begins
begun c l prompting done =
    let a = c.args in
    let line = lent a.t a.text.now l in
    for_equal (λ e. begins codes (start_read_in a.s.now a.f) e) (ap (reading_of line) c.reading_at-r.ensures)
    (then_does (cleared c line _ _)
    (then_does (fed c line _)
    (then_does (prompted c line _ prompting)
    (then_does (c.displays-displayed.ensures.rule l _) done))))

pub returns-then-f : goal.returns-then-f
unfolding completes_if_full start_read_in
returns-then-f c =
    let a = c.args in
    record { rule = λ l prompting. begun (goal.at.returns-then-f c).After-displays-displayed l prompting (only_does _ (eq-eqb _ _ c.if-f.true) (c.completes.ensures.rule (lent a.t a.text.now l) l _)) }

pub returns : goal.returns
unfolding completes_if_full start_read_in
returns c = record { rule = λ l prompting. begun (goal.at.returns c).After-displays-displayed l prompting (not_does _ (ne_eqb _ _ c.if-f.false) (still_does _ _ _)) }
