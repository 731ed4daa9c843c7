use mathlib.Core.Path.{ap, ◌∙◌}
use mathlib.Core.Bool.{◌&&◌}
use lib.Dec.{eqb}
use Rattle.rules.specs.Messages.Layout.{byte_at}
use Rattle.rules.specs.StartRead.Acceptance.{hides_lf}
use Rattle.message.specs.Found.{start_read_in}
use Rattle.line.proofs.start_read.hides_lf.Goals as goal

pub returns : goal.returns
unfolding hides_lf start_read_in
returns c =
    let first = c.byte_at-first.ensures ∙ ap (λ text. byte_at text 0) c.span_of.ensures in
    ap (λ b. eqb c.args.f.formats 1 && eqb b 10) first
