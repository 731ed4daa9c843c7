use mathlib.Core.Path.{ap, ◌∙◌, subst}
use Rattle.rules.specs.State.{codes}
use Rattle.rules.specs.StartRead.{in_set}
use Rattle.rules.specs.Turns.{◌then◌}
use Rattle.rules.specs.Steps as steps
use Rattle.rules.specs.Steps.{raised_by}
use Rattle.sets.specs.View.{set_of}
use Rattle.line.specs.declared.acts.Act.TheVariants.{Takes}
use Rattle.line.specs.View.{key_of}
use Rattle.line.specs.With.{on_flow, lent}
use Rattle.line.specs.Acts.{idle_at_zero, takes_key, Meets}
use Rattle.line.proofs.Flow.look_up_for_step.Goals as goal

pub returns : goal.returns
returns c =
    let a = c.args in
    λ s l bounded first set.
    let line = on_flow a.self.now (lent a.t l.text l) in
    let ends = c.has-ends.ensures ∙ ap (λ x. in_set (set_of x) c.raised_by-raised.result) set in
    let taken = c.taken_as in
    record {
      bounded = bounded;
      held = c.is_held.ensures;
      taken = λ r pending can.
          subst (λ k. Meets (takes_key line r then steps.takes codes (key_of k) (idle_at_zero line r)) s line (Takes taken.result)) first
          (taken.ensures s l r pending can (ends ∙ ap (in_set (set_of l.set)) (c.raised_by-raised.ensures l.text l r)));
    }
