use mathlib.Core.Path.{ap, ◌∙◌}
use Prim.Native.Nat.{◌-◌}
use Rattle.line.proofs.InputAppended.{bit_is}
use Rattle.line.proofs.Reading.shown_of.Goals as goal

pub returns : goal.returns
returns c = c.saturating_sub.ensures ∙ ap (λ n. c.args.left - n) (c.from.ensures ∙ bit_is c.args.self.hidden_lf)
