use mathlib.Core.Path.{refl}
use mathlib.Core.Bool.{true}
use Rattle.rules.specs.State.{with_quoting}
use Rattle.rules.specs.Arrival.{quotes}
use Rattle.line.proofs.Turns.{told_does}
use Rattle.line.proofs.ArrivalLaws.{terminal_does}
use Rattle.line.proofs.Work.quotes.Goals as goal

pub returns : goal.returns
unfolding quotes
returns c =
    let self = c.args.self in
    record { rule = λ k l t m. told_does _ (terminal_does self _ (with_quoting true) refl l t m) }
