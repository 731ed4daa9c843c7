use mathlib.Core.Logic.◌⊎◌.{inl, inr}
use mathlib.Core.Path.{sym, ◌∙◌}
use native.Mathlib.Omega.{arith}
use borrow.Author.Tests.{eq-eqb, ne_eqb}
use Rattle.rules.specs.Token.{next}
use Rattle.rules.proofs.Choice.{pick_true, pick-false}
use Rattle.line.specs.TokenChanges.{place_of}
use Rattle.line.proofs.tokens.after_escape.Goals as goal

pub returns-in-59 : goal.returns-in-59
unfolding next place_of
returns-in-59 c =
    elim c.in-59.is [
      | inl semicolon ↦ sym (pick_true _ _ (eq-eqb _ 59 semicolon))
      | inr question ↦ sym (pick-false _ _ (ne_eqb _ 59 (λ e. omega arith)) ∙ pick_true _ _ (eq-eqb _ 63 question))
    ]

pub returns-in-79 : goal.returns-in-79
unfolding next place_of
returns-in-79 c =
    sym (pick-false _ _ (ne_eqb _ 59 (λ e. omega arith)) ∙ pick-false _ _ (ne_eqb _ 63 (λ e. omega arith)) ∙ pick_true _ _ (eq-eqb _ 79 c.in-79.is))

pub returns-in-91 : goal.returns-in-91
unfolding next place_of
returns-in-91 c =
    sym
    (pick-false _ _ (ne_eqb _ 59 (λ e. omega arith)) ∙ pick-false _ _ (ne_eqb _ 63 (λ e. omega arith)) ∙
    pick-false _ _ (ne_eqb _ 79 (λ e. omega arith)) ∙ pick_true _ _ (eq-eqb _ 91 c.in-91.is))

pub returns-in_default : goal.returns-in_default
unfolding next place_of
returns-in_default c =
    c.ended.ensures
    ∙ sym
    (pick-false _ _ (ne_eqb _ 59 (λ e. grind arith)) ∙ pick-false _ _ (ne_eqb _ 63 (λ e. grind arith)) ∙
    pick-false _ _ (ne_eqb _ 79 (λ e. omega arith)) ∙ pick-false _ _ (ne_eqb _ 91 (λ e. omega arith)))
