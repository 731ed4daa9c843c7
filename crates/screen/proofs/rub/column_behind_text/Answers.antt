use Rattle.std.proofs.Common.{refl, ap, ◌∙◌, ◌+◌, length}
use Rattle.rules.specs.Screen.{column_after_all, echo_all}
use Rattle.screen.proofs.Marks.{column_turn}
use Rattle.screen.proofs.rub.column_behind_text.Goals as goal

pub loop-n-init : goal.loop-n-init
unfolding column_after_all echo_all
loop-n-init c = (refl, refl)

pub loop-n-preserved : goal.loop-n-preserved
loop-n-preserved c =
    let inv = c.loop-n.invariant in (
      column_turn c.args.column c.args.text.now c.loop-n.n-index c.loop-n-test.true inv.0 (c.width.ensures ∙ ap length c.of.ensures) c.column_behind-cursor.ensures,
      ap (λ n. n + 1) inv.1,
    )
