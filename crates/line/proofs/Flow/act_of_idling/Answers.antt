use mathlib.Core.Path.{refl}
use borrow.Author.Tests.{le-leb, lt-leb}
use Rattle.rules.specs.State.{codes}
use Rattle.rules.specs.ReadData.{no_ending, by_timeout, completes}
use Rattle.rules.specs.Steps.{sets_idle, idles}
use Rattle.line.specs.View.{reading_of}
use Rattle.line.specs.With.{lent}
use Rattle.line.proofs.ActChoice.{met, meets_read, meets_first, meets_second}
use Rattle.line.proofs.Flow.act_of_idling.Goals as goal

pub returns-then-t-idle : goal.returns-then-t-idle
unfolding idles
returns-then-t-idle c = record {
  rule = λ s l. meets_first _ refl (le-leb _ _ c.if-t-idle.true)
      (meets_read (λ q. completes codes by_timeout no_ending (reading_of (lent c.args.t l.text l) q)) c.requires (met tt));
  kind = refl;
}

pub returns : goal.returns
unfolding idles
returns c = record {
  rule = λ s l. meets_second _ refl (lt-leb _ _ c.if-t-idle.false)
      (meets_read (λ q. sets_idle _ (reading_of (lent c.args.t l.text l) q)) c.requires (met tt));
  kind = refl;
}
