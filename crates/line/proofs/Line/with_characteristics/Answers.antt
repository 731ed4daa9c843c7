use mathlib.Core.Path.{ap, ◌∙◌}
use Rattle.rules.specs.Characteristics.{with_parameters}
use Rattle.parameters.specs.Lists.{parameters_from}
use Rattle.characteristics.specs.View as host
use Rattle.line.specs.View.{host_of}
use Rattle.line.proofs.Line.with_characteristics.Goals as goal

pub returns : goal.returns
returns c =
    let a = c.args in
    let set = c.with_settings-set in
    record {
      host = set.result;
      same = c.with_host.ensures;
      settings =
          set.ensures.0
          ∙ ap (λ h. with_parameters (parameters_from 11 0 c.span_of-list.result.now) (host.host_view h)) c.host_in-host.ensures
          ∙ ap (λ bs. with_parameters (parameters_from 11 0 bs) (host_of a.self)) c.span_of-list.ensures;
      counted = set.ensures.1.counted (rw c.host_in-host.ensures (record { table = c.requires.table; set = c.requires.last_set }));
    }
