use Rattle.std.proofs.Common.{arith, ◌+◌, min, sym, ap, ◌∙◌}
use Rattle.rules.specs.Choice.{pick, within}
use Rattle.rules.specs.Numbers.{top_column}
use Rattle.rules.specs.Screen.{is_mark, column_after}
use Rattle.screen.proofs.Cases.{column_mark, column_same}
use Rattle.screen.proofs.Screen.column_after.Goals as goal

pub returns-then-is_mark : goal.returns-then-is_mark
returns-then-is_mark c =
    c.further.ensures ∙ sym (column_mark _ _ (sym c.is_mark.ensures ∙ c.if-is_mark.true))

pub returns-in-13 : goal.returns-in-13
unfolding column_after is_mark within pick
returns-in-13 c = sym (ap (column_after c.args.self.column) c.in-13.is)

pub returns-in-8 : goal.returns-in-8
unfolding column_after is_mark within pick
returns-in-8 c = c.saturating_sub.ensures ∙ sym (ap (column_after c.args.self.column) c.in-8.is)

pub returns-in-9 : goal.returns-in-9
unfolding column_after is_mark within pick
returns-in-9 c =
    let column = c.args.self.column in
    c.further-in-9.ensures ∙ ap (λ k. min top_column (column + k)) c.to_tab.ensures ∙ sym (ap (column_after column) c.in-9.is)

pub returns-in_default : goal.returns-in_default
returns-in_default c =
    sym (column_same _ _ (sym c.is_mark.ensures ∙ c.if-is_mark.false) (λ r. omega arith) (λ k. omega arith) (λ t. omega arith))
