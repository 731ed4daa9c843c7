use mathlib.Core.Path.{refl, sym, ◌∙◌}
use Rattle.line.proofs.ReceivedMessage.{true-false}
use Rattle.line.proofs.ActChoice.{none_of}
use Rattle.line.proofs.Flow.act_if.Goals as goal

pub returns-then-roomy : goal.returns-then-roomy
returns-then-roomy c = record { rule = λ s l y sees. c.act_of.ensures.rule s l sees; none = λ n. absurd (true-false (sym c.if-roomy.true ∙ n)); kind = c.act_of.ensures.kind }

pub returns : goal.returns
returns c = record { rule = λ s l y. absurd (true-false (sym y ∙ c.if-roomy.false)); none = λ n. refl; kind = none_of c.args.e }
