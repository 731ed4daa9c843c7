use mathlib.Core.Path.{refl, sym, ap, ◌∙◌}
use Rattle.rules.specs.StartRead.{in_set}
use Rattle.sets.specs.View.{set_of}
use Rattle.rules.specs.Steps.{is_token_start, raised_by}
use Rattle.line.specs.View.{key_of}
use Rattle.line.specs.With.{on_flow, lent}
use Rattle.line.proofs.FirstKey.{first_partial, first_quoted, first_begins, first_plain}
use Rattle.line.proofs.Flow.taken_as.Goals as goal

pub returns-then-is_partial : goal.returns-then-is_partial
returns-then-is_partial c =
    let a = c.args in
    λ s l r pending can ends.
    first_partial s (on_flow a.self (lent a.t l.text l)) r pending can (key_of a.key) refl (sym c.is_partial.ensures ∙ c.if-is_partial.true)

pub returns-then-key : goal.returns-then-key
returns-then-key c =
    let a = c.args in
    λ s l r pending can ends.
    first_quoted s (on_flow a.self (lent a.t l.text l)) r pending can (key_of a.key) refl
    (sym c.is_partial.ensures ∙ c.if-is_partial.false)
    c.if-key.true

pub returns-then-is_token_start : goal.returns-then-is_token_start
unfolding is_token_start
returns-then-is_token_start c =
    let a = c.args in
    λ s l r pending can ends.
    first_begins s (on_flow a.self (lent a.t l.text l)) r pending can (key_of a.key) refl
    (sym c.is_partial.ensures ∙ c.if-is_partial.false)
    c.if-key.false
    (sym (c.is_token_start.ensures l.text l r) ∙ c.if-is_token_start.true)

pub returns : goal.returns
unfolding is_token_start raised_by
returns c =
    let a = c.args in
    λ s l r pending can ends.
    let line = on_flow a.self (lent a.t l.text l) in
    let raised = c.raised_by-raised.ensures l.text l r in
    let ended = ends ∙ ap (in_set (set_of l.set)) (sym raised) in
    first_plain s line r pending can (key_of a.key) refl
    (sym c.is_partial.ensures ∙ c.if-is_partial.false)
    c.if-key.false
    (sym (c.is_token_start.ensures l.text l r) ∙ c.if-is_token_start.false)
    raised
    (c.takes_plain.ensures s line r pending can ended)
