use mathlib.Core.Path.{refl}
use Rattle.rules.specs.Arrival.{sends_out_of_band}
use Rattle.message.specs.Found.{held_in}
use Rattle.writing.specs.Spans.{spans_of, inside}
use Rattle.line.proofs.Turns.{told_does}
use Rattle.line.proofs.Work.sends_out_of_band.Goals as goal

pub returns : goal.returns
unfolding sends_out_of_band held_in spans_of inside
returns c =
    let sent = c.sends_plain.ensures in
    record { rule = λ l t. told_does _ (sent.rule _ _ (λ s. refl) refl l t) }
