use mathlib.Core.Path.{refl, sym, ap, ◌∙◌}
use Prim.Native.Nat.{◌-◌}
use mathlib.Core.List.{[]}
use lib.ListN.{take, drop}
use Rattle.rules.specs.Screen.{echo_all}
use Rattle.rules.proofs.Choice.{pick_true, pick-false}
use Rattle.rules.specs.Editing.{displays_data}
use Rattle.line.specs.With.{lent}
use Rattle.line.proofs.Turns.{then_does}
use Rattle.line.proofs.FlowChanges.{same_writes, blank_does, here_rule, read_does, display_column_same}
use Rattle.rules.proofs.Numbers.{input_size_lem}
use native.Mathlib.Omega.{arith}
use Rattle.line.proofs.Work.displays_data.Goals as goal

pub slice_bounds-echo_all-end : goal.slice_bounds-echo_all-end
slice_bounds-echo_all-end c = omega (arith, c.requires.input_len_bound, input_size_lem)

pub returns-then-t : goal.returns-then-t
unfolding displays_data
returns-then-t c =
    let a = c.args in
    let r = a.r in
    let text = a.text.now in
    let next = c.with_display_column-next in
    let begun = c.with_read-begun.ensures in
    let from = c.first_shown-start.result in
    let part = take (r.input_len - from) (drop from text) in
    let echoed = c.echo_all.ensures in record {
      rule = λ l m.
          let line = lent a.t text l in
          let shown =
          ap (λ f. echo_all f.terminal.screen.column part) begun.flow
          ∙ ap (echo_all a.self.flow.terminal.screen.column) (c.first_shown-start.ensures.text line) ∙ sym (pick_true _ [] c.if-t.true) in
          here_rule refl
          (then_does (read_does a.self next.result begun line (display_column_same r next.ensures line) _ m)
          (same_writes shown (echoed.rule line m)));
    }

pub returns : goal.returns
unfolding displays_data
returns c =
    let a = c.args in
    let next = c.with_display_column-next in
    let begun = c.with_read-begun.ensures in record {
      rule = λ l m.
          let line = lent a.t a.text.now l in
          here_rule refl
          (then_does (read_does a.self next.result begun line (display_column_same a.r next.ensures line) _ m)
          (blank_does _ _ m (pick-false _ _ c.if-t.false)));
    }
