use mathlib.Core.Path.{sym, ap, ◌∙◌}
use mathlib.Core.Bool.{not, ◌&&◌}
use lib.Dec.{eqb}
use Rattle.rules.specs.Calls.{is_timely}
use Rattle.rules.proofs.Choice.{pick_true, pick-false}
use Rattle.line.proofs.refusals.is_timely.Goals as goal

pub returns-then-initiated : goal.returns-then-initiated
unfolding is_timely
returns-then-initiated c = λ s begun pending.
    let kind = c.args.kind in
    ap (λ p. not (eqb kind 1) && not (eqb kind 2 && p)) pending ∙ sym (pick_true _ _ (sym begun ∙ c.if-initiated.true))

pub returns : goal.returns
unfolding is_timely
returns c = λ s begun pending. sym (pick-false _ _ (sym begun ∙ c.if-initiated.false))
