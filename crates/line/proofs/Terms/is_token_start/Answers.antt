use mathlib.Core.Logic.◌⊎◌.{inl, inr}
use mathlib.Core.Path.{sym, ap, ap₂}
use mathlib.Core.Bool.{◌&&◌, ◌||◌}
use native.Mathlib.Omega.{arith}
use borrow.Author.Tests.{ne_eqb}
use Rattle.rules.specs.Steps.{is_token_start}
use Rattle.line.specs.View.{reading_of}
use Rattle.line.specs.With.{lent}
use Rattle.line.proofs.Terms.is_token_start.Goals as goal

pub returns-in-27 : goal.returns-in-27
unfolding is_token_start
returns-in-27 c text l r =
    elim c.in-27.is [
      | inl csi ↦ sym (ap (λ n. is_token_start n (reading_of (lent c.args.self text l) r)) csi)
      | inr esc ↦ sym (ap (λ n. is_token_start n (reading_of (lent c.args.self text l) r)) esc)
    ]

pub returns-in_default : goal.returns-in_default
unfolding is_token_start
returns-in_default c text l r =
    sym (ap₂ (λ a b. (a || b) && c.args.self.recognises) (ne_eqb c.args.c 27 (λ e. grind arith)) (ne_eqb c.args.c 155 (λ e. grind arith)))
