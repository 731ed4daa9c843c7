use mathlib.Core.Path.{refl, ap}
use mathlib.Core.Bool.{not, false}
use mathlib.Core.List.{[], ◌∷◌}
use Rattle.rules.specs.Messages.Forms.{plain, discard_state}
use Rattle.rules.specs.Messages.Codec as codec
use Rattle.rules.specs.State.{with_discarding, with_locked}
use Rattle.rules.specs.Arrival.{sends_discard_state, unlocks, unlocks_if_discarding, flips_discard}
use Rattle.message.specs.Found.{held_in}
use Rattle.writing.specs.Spans.{spans_of, inside}
use Rattle.line.proofs.FlowChanges.{here_rule, here_only, here_not}
use Rattle.line.proofs.Turns.{then_does, told_does}
use Rattle.line.proofs.ArrivalLaws.{terminal_does}
use Rattle.line.proofs.Work.flips_discard.Goals as goal
use Rattle.line.proofs.Work.flips_discard.Goals.{then-said, else-said}

pub returns : goal.returns
unfolding flips_discard sends_discard_state unlocks unlocks_if_discarding held_in spans_of inside
returns c =
    let self = c.args.self in
    let kept = c.bit_of-kept.ensures in
    let sent = c.sends_plain-said.ensures in
    record {
      rule = λ k l t.
          told_does _
          (then_does (terminal_does self _ (λ x. with_discarding (not x.discarding) x) refl l t _)
          (then_does
          (here_rule refl (sent.rule _ _ (λ s. ap (λ n. codec.message (plain discard_state (n ∷ []))) kept) refl l t))
          (elim c.if-said.branch [
            | then-said w ↦ rw w.said-is (here_only _ refl w.if-said.true (terminal_does c.sends_plain-said.result _ (with_locked false) refl l t _))
            | else-said w ↦ rw w.said-is (here_not _ t _ refl w.if-said.false)
          ])));
    }
