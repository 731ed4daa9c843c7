use Rattle.std.proofs.Common.{sym, ap, ◌∙◌, map}
use native.Mathlib.Omega.{arith}
use borrow.Author.Tests.{tests, eq-eqb, ne_eqb}
use Rattle.rules.specs.Messages.Parameters.{value_limits}
use Rattle.rules.proofs.Choice.{pick_true, pick-false}
use Rattle.parameters.specs.Lists.{mask}
use Rattle.parameters.proofs.kinds.setting_masks.Goals as goal

pub returns-in-514 : goal.returns-in-514
unfolding value_limits
returns-in-514 c = ap (map mask) (sym (pick_true _ _ (eq-eqb _ _ c.in-514.is)))

pub returns-in-520 : goal.returns-in-520
unfolding value_limits
returns-in-520 c =
    ap (map mask)
    (sym (pick-false _ _ (ne_eqb _ _ (λ e. omega (arith, c.in-520.is))) ∙ pick_true _ _ (eq-eqb _ _ c.in-520.is)))

pub returns-in-522 : goal.returns-in-522
unfolding value_limits
returns-in-522 c =
    ap (map mask)
    (sym
    (pick-false _ _ (ne_eqb _ _ (λ e. omega (arith, c.in-522.is))) ∙
    pick-false _ _ (ne_eqb _ _ (λ e. omega (arith, c.in-522.is))) ∙
    pick_true _ _ (eq-eqb _ _ c.in-522.is)))

pub returns-in_default : goal.returns-in_default
unfolding value_limits
returns-in_default c =
    ap (map mask)
    (sym
    (pick-false _ _ (ne_eqb _ _ (λ e. search tests)) ∙
    pick-false _ _ (ne_eqb _ _ (λ e. search tests)) ∙
    pick-false _ _ (ne_eqb _ _ (λ e. search tests)) ∙
    pick_true _ _ (sym c.is_defined.ensures ∙ c.if-is_defined.true)))

pub returns-in_default-2 : goal.returns-in_default-2
unfolding value_limits
returns-in_default-2 c =
    ap (map mask)
    (sym
    (pick-false _ _ (ne_eqb _ _ (λ e. search tests)) ∙
    pick-false _ _ (ne_eqb _ _ (λ e. search tests)) ∙
    pick-false _ _ (ne_eqb _ _ (λ e. search tests)) ∙
    pick-false _ _ (sym c.is_defined.ensures ∙ c.if-is_defined.false)))
