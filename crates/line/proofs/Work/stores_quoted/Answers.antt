use mathlib.Core.Path.{refl}
use mathlib.Core.Bool.{false}
use Rattle.rules.specs.State.{with_quoting}
use Rattle.rules.specs.Arrival.{stores_quoted}
use Rattle.line.proofs.Turns.{then_does}
use Rattle.line.proofs.ArrivalLaws.{terminal_does}
use Rattle.line.specs.View.{quoted_key}
use Rattle.line.proofs.Work.stores_quoted.Goals as goal

pub returns : goal.returns
unfolding stores_quoted
returns c =
    record {
      rule = λ k small l size m.
          then_does (terminal_does c.args.self _ (with_quoting false) refl l _ m) (c.stores.ensures.rule (quoted_key k) l size m);
    }
