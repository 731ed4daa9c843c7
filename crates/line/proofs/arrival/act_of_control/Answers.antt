use mathlib.Core.Path.{refl, ap}
use native.Mathlib.Omega.{arith}
use borrow.Author.Tests.{eq-eqb, ne_eqb}
use Rattle.rules.specs.Arrival.{quotes, flips_discard, clears_by, controlled}
use Rattle.line.specs.View.{view}
use Rattle.line.proofs.ActChoice.{met, meets_as, meets_first, meets_second, meets_told}
use Rattle.line.proofs.arrival.act_of_control.Goals as goal

pub returns-then-c-eq-QUOTE_KEY : goal.returns-then-c-eq-QUOTE_KEY
unfolding controlled
returns-then-c-eq-QUOTE_KEY c =
    record { rule = λ s l. meets_first _ refl (eq-eqb _ _ c.if-c-eq-QUOTE_KEY.true) (meets_as (ap (λ n. quotes n (view l)) c.if-c-eq-QUOTE_KEY.true) (met tt)); kind = refl }

pub returns-then-c-eq-CLEAR_KEY : goal.returns-then-c-eq-CLEAR_KEY
unfolding controlled clears_by
returns-then-c-eq-CLEAR_KEY c = record {
  rule = λ s l. meets_second _ refl (ne_eqb _ _ c.if-c-eq-QUOTE_KEY.false)
      (meets_first _ refl (eq-eqb _ _ c.if-c-eq-CLEAR_KEY.true) (meets_told _ (met tt)));
  kind = refl;
}

pub returns-then-c-eq-DISCARD_KEY : goal.returns-then-c-eq-DISCARD_KEY
unfolding controlled
returns-then-c-eq-DISCARD_KEY c = record {
  rule = λ s l. meets_second _ refl (ne_eqb _ _ c.if-c-eq-QUOTE_KEY.false)
      (meets_second _ refl (ne_eqb _ _ c.if-c-eq-CLEAR_KEY.false)
      (meets_first _ refl (eq-eqb _ _ c.if-c-eq-DISCARD_KEY.true) (meets_as (ap (λ n. flips_discard n (view l)) c.if-c-eq-DISCARD_KEY.true) (met tt))));
  kind = refl;
}

pub returns : goal.returns
unfolding controlled
returns c = record {
  rule = λ s l. meets_second _ refl (ne_eqb _ _ c.if-c-eq-QUOTE_KEY.false)
      (meets_second _ refl (ne_eqb _ _ c.if-c-eq-CLEAR_KEY.false)
      (meets_second _ refl (ne_eqb _ _ c.if-c-eq-DISCARD_KEY.false) (met (omega arith))));
  kind = refl;
}
