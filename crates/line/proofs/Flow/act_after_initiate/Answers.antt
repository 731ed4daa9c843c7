use mathlib.Core.Path.{refl, sym, ap, ◌∙◌}
use mathlib.Core.Bool.{◌&&◌}
use lib.Dec.{eqb}
use native.Mathlib.Omega.{arith}
use Rattle.rules.specs.Arrival.{is_hello, is_immediate_clear, by_first_rule}
use Rattle.line.specs.With.{on_flow, lent}
use Rattle.line.proofs.ActChoice.{met, meets_first, meets_second}
use Rattle.line.proofs.ArrivalLaws.{passes_is, band_is, band_not}
use Rattle.line.proofs.Flow.act_after_initiate.Goals as goal

pub returns-then-known : goal.returns-then-known
unfolding by_first_rule
returns-then-known c = record { rule = λ s l band. meets_first _ refl c.if-known.true (met (omega arith)); kind = refl }

pub returns-then-band-eq-HELLO : goal.returns-then-band-eq-HELLO
unfolding by_first_rule is_hello
returns-then-band-eq-HELLO c = record { rule = λ s l band. meets_second _ refl c.if-known.false (meets_first _ refl (band_is 3 band c.if-band-eq-HELLO.true) (met tt)); kind = refl }

pub returns-then-band-eq-IMMEDIATE_CLEAR : goal.returns-then-band-eq-IMMEDIATE_CLEAR
unfolding by_first_rule is_hello is_immediate_clear
returns-then-band-eq-IMMEDIATE_CLEAR c = record {
  rule = λ s l band.
      meets_second _ refl c.if-known.false
      (meets_second _ refl (band_not 3 band c.if-band-eq-HELLO.false) (meets_first _ refl (band_is 1 band c.if-band-eq-IMMEDIATE_CLEAR.true) (met tt)));
  kind = refl;
}

pub returns-then-is_some-t : goal.returns-then-is_some-t
unfolding by_first_rule is_hello is_immediate_clear
returns-then-is_some-t c = record {
  rule = λ s l band.
      meets_second _ refl c.if-known.false
      (meets_second _ refl (band_not 3 band c.if-band-eq-HELLO.false)
      (meets_second _ refl (band_not 1 band c.if-band-eq-IMMEDIATE_CLEAR.false)
      (meets_first _ refl (passes_is (on_flow c.args.self (lent c.args.t l.text l)) c.args.self.pending ∙ ap (λ b. b && eqb c.args.t.disables 3) (sym c.is_some.ensures) ∙ c.if-is_some-t.true) (met (omega arith)))));
  kind = refl;
}

pub returns : goal.returns
unfolding by_first_rule is_hello is_immediate_clear
returns c = record {
  rule = λ s l band.
      meets_second _ refl c.if-known.false
      (meets_second _ refl (band_not 3 band c.if-band-eq-HELLO.false)
      (meets_second _ refl (band_not 1 band c.if-band-eq-IMMEDIATE_CLEAR.false)
      (meets_second _ refl (passes_is (on_flow c.args.self (lent c.args.t l.text l)) c.args.self.pending ∙ ap (λ b. b && eqb c.args.t.disables 3) (sym c.is_some.ensures) ∙ c.if-is_some-t.false) (c.act_of_control.ensures.rule s _))));
  kind = c.act_of_control.ensures.kind;
}
