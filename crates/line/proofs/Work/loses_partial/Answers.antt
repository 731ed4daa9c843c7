use mathlib.Core.Path.{refl, sym, ◌∙◌}
use Rattle.rules.specs.ReadData.{loses_partial}
use Rattle.line.proofs.Turns.{told_does}
use Rattle.line.proofs.FlowChanges.{here_only, here_not, cleared_does}
use Rattle.line.proofs.Work.loses_partial.Goals as goal

pub returns-then-is_partial : goal.returns-then-is_partial
unfolding loses_partial
returns-then-is_partial c =
    let partial = sym c.is_partial.ensures ∙ c.if-is_partial.true in
    let self = c.args.self in
    let next = c.without_token-next.ensures in
    let typed = c.with_typed.ensures in record { rule = λ l t m. here_only _ refl partial (told_does _ (cleared_does self typed next l t m)) }

pub returns : goal.returns
unfolding loses_partial
returns c =
    let whole = sym c.is_partial.ensures ∙ c.if-is_partial.false in
    record { rule = λ l t m. here_not _ t m refl whole }
