use mathlib.Core.Path.{ap, ◌∙◌}
use native.Mathlib.Omega.{arith}
use lib.ListN.{length}
use Rattle.rules.specs.Choice.{bit}
use Rattle.rules.specs.State.{codes}
use Rattle.rules.specs.Messages.Codec as codec
use Rattle.rules.specs.ReadData as rules
use Rattle.writing.specs.Spans.{spans_of}
use Rattle.line.specs.View.{view, reading_of}
use Rattle.line.specs.With.{lent, on_flow}
use Rattle.line.proofs.InputAppended.{bit_is}
use Rattle.line.proofs.FlowChanges.{read_data_held}
use Rattle.line.proofs.SentMessages.{text_inside}
use Rattle.line.proofs.Work.read_data_of.Goals as goal

pub returns : goal.returns
unfolding spans_of
returns c =
    let a = c.args in
    λ text k l full. (
      read_data_held a.self.flow a.t a.r c.code.result a.ending text k l full (c.from-more.ensures ∙ bit_is _ ∙ ap bit (c.has_more_data.ensures k.keys))
          c.change-vertical.ensures c.change-horizontal.ensures
          ∙ ap (λ n. codec.message (rules.read_data_of codes n a.ending (reading_of (lent a.t text l) a.r) (view (on_flow a.self.flow k)))) c.code.ensures,
      text_inside a.r.input_len (length text) (omega (arith, full.within, full.full)),
    )
