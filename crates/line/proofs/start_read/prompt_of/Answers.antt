use mathlib.Core.Path.{ap₂, ◌∙◌}
use lib.ListN.{take, drop}
use Rattle.rules.specs.Choice.{bit}
use Rattle.message.specs.Found.{start_read_in}
use Rattle.rules.specs.StartRead.Acceptance.{shown_prompt}
use Rattle.line.proofs.StartRead.{prompt_within}
use Rattle.line.proofs.start_read.prompt_of.Goals as goal

pub front_of-requires : goal.front_of-requires
front_of-requires c = prompt_within c.requires c.span_of-text.ensures

pub returns : goal.returns
unfolding shown_prompt start_read_in
returns c =
    let end = c.args.f.end_of_prompt in
    c.front_of.ensures ∙ ap₂ (λ hidden text. drop (bit hidden) (take end text)) c.hides_lf.ensures c.span_of-text.ensures
