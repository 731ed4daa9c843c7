use mathlib.Core.Logic.◌⊎◌.{inl, inr}
use mathlib.Core.Path.{sym, ap, ◌∙◌}
use mathlib.Core.Bool.{◌&&◌, ◌||◌, or-false}
use native.Mathlib.Omega.{arith}
use lib.Dec.{leb, eqb}
use borrow.Author.Tests.{ne_eqb}
use Rattle.rules.specs.Steps.{is_edit_key}
use Rattle.line.specs.View.{reading_of}
use Rattle.line.specs.With.{lent}
use Rattle.line.proofs.Terms.is_edit_key.Goals as goal

pub returns-in-127 : goal.returns-in-127
unfolding is_edit_key
returns-in-127 c text l r =
    elim c.in-127.is [
      | inl word ↦ sym (ap (λ n. is_edit_key n (reading_of (lent c.args.self text l) r)) word ∙ or-false _)
      | inr character ↦ sym (ap (λ n. is_edit_key n (reading_of (lent c.args.self text l) r)) character ∙ or-false _)
    ]

pub returns-in-21 : goal.returns-in-21
unfolding is_edit_key
returns-in-21 c text l r =
    elim c.in-21.is [
      | inl show ↦ sym (ap (λ n. is_edit_key n (reading_of (lent c.args.self text l) r)) show)
      | inr line ↦ sym (ap (λ n. is_edit_key n (reading_of (lent c.args.self text l) r)) line)
    ]

pub returns-in_default : goal.returns-in_default
unfolding is_edit_key
returns-in_default c text l r =
    let d = c.args.self.disables in
    let a = ne_eqb c.args.c 127 (λ e. grind arith) in
    let b = ne_eqb c.args.c 23 (λ e. grind arith) in
    let x = ne_eqb c.args.c 21 (λ e. grind arith) in
    let y = ne_eqb c.args.c 18 (λ e. grind arith) in
    λ i. sym (λ j. (a j || b j) && leb d 1 || (x j || y j) && eqb d 0) i
