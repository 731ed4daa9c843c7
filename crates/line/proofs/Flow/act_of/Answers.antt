use mathlib.Core.Path.{sym, ap, ◌∙◌}
use Rattle.line.specs.declared.acts.Act.TheVariants.{Obeys}
use Rattle.line.specs.Events.{event_rule}
use Rattle.line.specs.With.{on_flow, lent}
use Rattle.line.proofs.ActChoice.{met, event_meets, kind_as, host_kind, key_host, tick_host, step_host, event_same}
use Rattle.line.proofs.Flow.act_of.Goals as goal

pub returns-in-Key : goal.returns-in-Key
unfolding event_rule
returns-in-Key c =
    let a = c.args in record { rule = λ s l h. event_meets s (on_flow a.self.now (lent a.t l.text l)) c.in-Key.is h (λ k. c.act_of_key.ensures.rule s l k.0 k.1); kind = kind_as c.act_of_key.result c.in-Key.is c.act_of_key.ensures.kind; obeys = λ m e. absurd (key_host (sym c.in-Key.is ∙ e)) }

pub returns-in-Tick : goal.returns-in-Tick
unfolding event_rule
returns-in-Tick c =
    let a = c.args in record { rule = λ s l h. event_meets s (on_flow a.self.now (lent a.t l.text l)) c.in-Tick.is h (λ k. c.act_of_tick.ensures.rule s l k); kind = kind_as c.act_of_tick.result c.in-Tick.is c.act_of_tick.ensures.kind; obeys = λ m e. absurd (tick_host (sym c.in-Tick.is ∙ e)) }

pub returns-in-Step : goal.returns-in-Step
unfolding event_rule
returns-in-Step c =
    let a = c.args in record {
      rule = λ s l h. event_meets s (on_flow a.self.now (lent a.t l.text l)) c.in-Step.is h
          (λ k. c.act_of_step.ensures.rule s l k);
      kind = kind_as c.act_of_step.result c.in-Step.is c.act_of_step.ensures.kind;
      obeys = λ m e. absurd (step_host (sym c.in-Step.is ∙ e));
    }

pub returns-in-Host : goal.returns-in-Host
unfolding event_rule
returns-in-Host c =
    let a = c.args in record { rule = λ s l h. event_meets s (on_flow a.self.now (lent a.t l.text l)) c.in-Host.is h (λ k. met k); kind = host_kind c.in-Host.m c.in-Host.is; obeys = λ m e. ap Obeys (event_same (sym c.in-Host.is ∙ e)) }
