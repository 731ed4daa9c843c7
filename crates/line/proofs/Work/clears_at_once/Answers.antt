use Rattle.line.specs.With.{lent}
use Rattle.rules.specs.Arrival.{unlocks, clear_rule, clears_at_once}
use mathlib.Core.Path.{refl}
use Rattle.line.proofs.FlowChanges.{here_rule}
use Rattle.line.proofs.Turns.{then_does}
use Rattle.line.proofs.Work.clears_at_once.Goals as goal

pub returns : goal.returns
unfolding clears_at_once clear_rule unlocks
returns c =
    let a = c.args in
    let ended = c.ends_out_of_band.ensures in
    let unseen = c.clears_without_rubbing-cleared.ensures in
    let emptied = c.empties_typed-emptied.ensures in
    let unlocked = c.sets_locked-unlocked.ensures in
    let sent = c.sends_out_of_band-said.ensures in record {
      rule = λ l x.
          let line = lent a.t a.text.now l in
          then_does (sent.rule line x)
          (then_does (unlocked.rule line x _)
          (then_does (then_does (emptied.rule line x _) (here_rule refl (unseen.rule a.text.now l x _)))
          (here_rule refl (ended.rule l x))));
    }
