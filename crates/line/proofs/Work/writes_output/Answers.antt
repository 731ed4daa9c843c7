use mathlib.Core.Path.{refl, ap}
use mathlib.Core.Bool.{not}
use Rattle.rules.specs.Write.{own_bytes, writes_own, writes_output}
use Rattle.line.proofs.Turns.{then_does}
use Rattle.line.proofs.FlowChanges.{for_equal, here_only, here_not}
use Rattle.line.proofs.WriteLaws.{own_does}
use Rattle.line.proofs.Work.writes_output.Goals as goal

pub returns-then-self : goal.returns-then-self
unfolding writes_output
returns-then-self c = record { rule = λ s text l m. here_not _ _ m refl (ap not c.if-self.true) }

pub returns : goal.returns
unfolding writes_output own_bytes
returns c =
    let before = c.writes_affix-prefixed.ensures.rule in
    let written = c.writes_own-written.ensures.rule in
    let behind = c.writes_affix-postfixed.ensures.rule in
    let ended = c.ends_line.ensures in record {
      rule = λ s text l m.
          here_only _ refl (ap not c.if-self.false)
          (then_does (own_does _ _ (own_does _ _ (before l m) (for_equal writes_own text (written l m))) (behind l m)) (ended.rule l m));
    }
