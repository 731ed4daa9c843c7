use mathlib.Core.Path.{refl}
use Rattle.rules.specs.State.{with_locked}
use Rattle.line.proofs.ArrivalLaws.{terminal_does}
use Rattle.line.proofs.Work.sets_locked.Goals as goal

pub returns : goal.returns
returns c =
    let self = c.args.self in
    record { rule = λ l t m. terminal_does self _ (with_locked c.args.locked) refl l t m }
