use mathlib.Core.Path.{sym, ap, ◌∙◌}
use mathlib.Core.Bool.{not}
use Rattle.rules.specs.Choice.{any_is}
use Rattle.rules.specs.Characteristics.{is_deferred_clear, carries_settings}
use Rattle.rules.proofs.Choice.{pick_true, pick-false}
use Rattle.characteristics.proofs.Host.carries_settings.Goals as goal

pub returns-then-not-all_carried : goal.returns-then-not-all_carried
unfolding carries_settings
returns-then-not-all_carried c = sym (pick-false _ _ (sym c.all_carried.ensures ∙ c.if-not-all_carried.true))

pub returns : goal.returns
unfolding carries_settings
returns c =
    ap not (c.any_deferred_clear.ensures ∙ ap (λ h. any_is is_deferred_clear h.attributes) c.with_settings-host.ensures.0) ∙
    sym (pick_true _ _ (sym c.all_carried.ensures ∙ c.if-not-all_carried.false))
