use Rattle.std.proofs.Common.{sym, subst, ◌∙◌}
use Rattle.rules.specs.Characteristics.{with_parameters}
use Rattle.parameters.specs.Lists.{ParameterIs, parameters_from}
use Rattle.characteristics.specs.View.{host_view}
use Rattle.characteristics.proofs.Obeying.{obeys_first, obeys_none, kept_then}
use Rattle.characteristics.proofs.Host.with_settings.Goals as goal

pub loop-p-preserved : goal.loop-p-preserved
loop-p-preserved c =
    let it = c.loop-p.p-iterator in
    let kept = c.loop-p.invariant in
    let step = c.in-Some.ensures.steps in
    let is = subst (λ kind. ParameterIs kind it.at it.list.now c.in-Some.p) kept.2 step.2.1 in
    let obeyed = obeys_first is (host_view c.loop-p.host) step.2.0 (c.with_setting-host.ensures.same _ _ is) ∙ kept.3 in (
      tt,
      tt,
      step.0 ∙ kept.2,
      (λ i. with_parameters (parameters_from 11 (step.2.2 i) (step.1 i)) (host_view c.with_setting-host.result)) ∙ obeyed,
      kept_then kept.4 c.with_setting-host.ensures.kept,
    )

pub returns : goal.returns
returns c =
    let it = c.loop-p.p-iterator in
    let kept = c.loop-p.invariant in
    (sym (obeys_none it.at it.list.now (host_view c.loop-p.host) c.in-None.ensures.steps.2.0) ∙ kept.3, kept.4)
