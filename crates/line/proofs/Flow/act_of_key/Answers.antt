use mathlib.Core.Path.{refl, sym, ◌∙◌}
use native.Mathlib.Omega.{arith}
use Rattle.rules.specs.Arrival.{arrives}
use Rattle.line.proofs.ActChoice.{met, meets_as, meets_first, meets_second, meets_told}
use Rattle.line.proofs.Flow.act_of_key.Goals as goal

pub returns-then-initiated : goal.returns-then-initiated
unfolding arrives
returns-then-initiated c = record {
  rule = λ s l begun band.
      meets_as refl (meets_told _ (meets_first _ refl (sym begun ∙ c.if-initiated.true) (c.act_after_initiate.ensures.rule s l band)));
  kind = c.act_after_initiate.ensures.kind;
}

pub returns : goal.returns
unfolding arrives
returns c = record { rule = λ s l begun band. meets_as refl (meets_told _ (meets_second _ refl (sym begun ∙ c.if-initiated.false) (met (omega arith)))); kind = refl }
