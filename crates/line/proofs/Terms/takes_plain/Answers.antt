use mathlib.Core.Path.{sym, ◌∙◌}
use Rattle.line.specs.With.{lent}
use Rattle.line.proofs.FirstKey.{plain_ends, plain_edits, plain_data}
use Rattle.line.proofs.Terms.takes_plain.Goals as goal

pub returns-then-ends : goal.returns-then-ends
returns-then-ends c = λ s l r pending can ends.
    let a = c.args in
    plain_ends s (lent a.self l.text l) r pending can a.c (sym ends ∙ c.if-ends.true)

pub returns-then-is_edit_key : goal.returns-then-is_edit_key
returns-then-is_edit_key c = λ s l r pending can ends.
    let a = c.args in
    plain_edits s (lent a.self l.text l) r pending can a.c (sym ends ∙ c.if-ends.false) (sym (c.is_edit_key.ensures l.text l _) ∙ c.if-is_edit_key.true)

pub returns : goal.returns
returns c = λ s l r pending can ends.
    let a = c.args in
    plain_data s (lent a.self l.text l) r pending can a.c (sym ends ∙ c.if-ends.false) (sym (c.is_edit_key.ensures l.text l _) ∙ c.if-is_edit_key.false)
