use mathlib.Core.Path.{refl, ap, ◌∙◌}
use mathlib.Core.Bool.{◌&&◌}
use mathlib.Core.List.{[], ◌∷◌}
use borrow.Author.Tests.{eq-eqb, ne_eqb}
use Rattle.rules.specs.Choice.{bit}
use Rattle.rules.specs.Messages.Forms.{plain, write_completion}
use Rattle.rules.specs.Messages.Codec as codec
use Rattle.rules.specs.Screen.{change}
use Rattle.rules.specs.Write.{completion, sends_completion}
use Rattle.message.specs.Found.{held_in}
use Rattle.writing.specs.Spans.{spans_of, inside}
use Rattle.line.proofs.FlowChanges.{here_rule}
use Rattle.line.proofs.Turns.{still_does, only_does, not_does}
use Rattle.line.proofs.Work.sends_completion.Goals as goal

pub returns-then-wants-eq-ON : goal.returns-then-wants-eq-ON
unfolding sends_completion completion held_in spans_of inside
returns-then-wants-eq-ON c =
    let now = c.args.self.flow.terminal in
    let sent = c.sends_plain.ensures in record {
      rule = λ x b some before l t.
          let lost = c.bit_of-lost.ensures ∙ ap (λ f. bit (now.discarding && f)) some in
          let across = c.change-horizontal.ensures ∙ ap (λ s. change now.screen.column s.column) before in
          let down = c.change-vertical.ensures ∙ ap (λ s. change now.screen.line s.line) before in
          only_does _ (eq-eqb c.args.wants 1 c.if-wants-eq-ON.true)
          (here_rule refl
          (sent.rule _ _ (λ s i. codec.message (plain write_completion (lost i ∷ across i ∷ down i ∷ []))) refl l t));
    }

pub returns : goal.returns
unfolding sends_completion
returns c =
    record { rule = λ x b some before l t. not_does _ (ne_eqb c.args.wants 1 c.if-wants-eq-ON.false) (still_does _ t _) }
