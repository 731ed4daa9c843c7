use mathlib.Core.Path.{refl}
use mathlib.Core.Bool.{true}
use borrow.Author.Tests.{eq-eqb, ne_eqb}
use Rattle.rules.specs.State.{with_skip_linefeed}
use Rattle.rules.specs.Write.{ends_line}
use Rattle.line.proofs.Turns.{then_does, still_does, only_does, not_does}
use Rattle.line.proofs.ArrivalLaws.{terminal_does}
use Rattle.line.proofs.Work.ends_line.Goals as goal

pub returns-then-newline-eq-ON : goal.returns-then-newline-eq-ON
unfolding ends_line
returns-then-newline-eq-ON c =
    let newline = c.args.newline in
    let ended = c.put-ended in record {
      rule = λ l m.
          only_does _ (eq-eqb newline 1 c.if-newline-eq-ON.true)
          (then_does (ended.ensures.rule l m) (terminal_does ended.result _ (with_skip_linefeed true) refl l _ m));
    }

pub returns : goal.returns
unfolding ends_line
returns c =
    record { rule = λ l m. not_does _ (ne_eqb c.args.newline 1 c.if-newline-eq-ON.false) (still_does _ _ m) }
