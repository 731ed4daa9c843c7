use Rattle.std.proofs.Common.{◌≡◌}
use Rattle.rules.specs.Characteristics.{with_parameters}
use Rattle.parameters.specs.Lists.{parameters_from}
use Rattle.characteristics.specs.View.{host_view, KeepsSettings}
use Rattle.characteristics.proofs.Host.with_settings.Given as goal

abbrev pub invariant-loop-p : goal.invariant-loop-p
invariant-loop-p l =
    let it = l.p-iterator in
    (goal.iterator-loop-p).can_next it × (goal.iterator-loop-p).is_finite it × (it.kind ≡ 11) ×
    (with_parameters (parameters_from 11 it.at it.list.now) (host_view l.host) ≡
    with_parameters (parameters_from 11 0 l.list) (host_view l.initial.host)) ×
    KeepsSettings l.initial.host l.host
