use mathlib.Core.Path.{refl, ap}
use mathlib.Core.List.{[], ◌∷◌}
use native.Mathlib.Omega.{arith}
use Rattle.rules.specs.Messages.Forms.{plain, input_count}
use Rattle.rules.specs.Messages.Codec as codec
use Rattle.rules.specs.ReadData.{checks_input}
use Rattle.rules.proofs.Numbers.{waiting_byte}
use Rattle.message.specs.Found.{held_in}
use Rattle.writing.specs.Spans.{spans_of, inside}
use Rattle.line.proofs.FlowChanges.{here_rule}
use Rattle.line.proofs.HostLaws.{waiting_count_lem}
use Rattle.line.proofs.Work.checks_input.Goals as goal

pub overflow_add-waiting : goal.overflow_add-waiting
overflow_add-waiting c = omega (arith, waiting_byte)

pub returns : goal.returns
unfolding checks_input held_in spans_of inside
returns c =
    let sent = c.sends_plain.ensures in record {
      rule = λ l t.
          let count = waiting_count_lem l.keys c.args.self.flow.typed c.args.self.counted.typed in
          here_rule refl
          (sent.rule _ _ (λ s. ap (λ n. codec.message (plain input_count (n ∷ []))) count) refl l t);
    }
