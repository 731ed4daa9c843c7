use mathlib.Core.Path.{refl}
use Rattle.rules.specs.State.{codes}
use Rattle.rules.specs.Turns.{only}
use Rattle.rules.specs.ReadData.{no_ending, by_timeout, completes}
use Rattle.line.specs.View.{reading_of}
use Rattle.line.specs.With.{lent}
use Rattle.rules.specs.Steps.{takes_first}
use Rattle.line.proofs.ActChoice.{met, meets_read, meets_first, meets_second}
use Rattle.line.proofs.Terms.act_without_key.Goals as goal

pub returns-then-self : goal.returns-then-self
unfolding takes_first only
returns-then-self c = record {
  rule = λ s l r pending. meets_first _ refl c.if-self.true
      (meets_read (λ q. completes codes by_timeout no_ending (reading_of (lent c.args.self l.text l) q)) pending (met tt));
  kind = refl;
}

pub returns : goal.returns
unfolding takes_first only
returns c = record { rule = λ s l r pending. meets_second _ refl c.if-self.false (met tt); kind = refl }
