use mathlib.Core.Path.{ap, ◌∙◌}
use Prim.Native.Nat.{◌+◌, ◌-◌, ◌≤◌}
use native.Mathlib.Omega.{arith}
use lib.ListN.{length, drop}
use Rattle.fields.proofs.Pieces.{all_behind}
use Rattle.message.specs.Found.{start_read_in}
use Rattle.rules.specs.StartRead.Acceptance.{data_behind}
use Rattle.line.proofs.StartRead.{prompt_within}
use Rattle.line.proofs.start_read.data_of.Goals as goal

pub slice_bounds-result-count : goal.slice_bounds-result-count
slice_bounds-result-count c = prompt_within c.requires c.span_of.ensures

pub slice_bounds-result-start : goal.slice_bounds-result-start
slice_bounds-result-start c = prompt_within c.requires c.span_of.ensures

pub returns : goal.returns
unfolding data_behind start_read_in
returns c =
    let text = c.span_of.result.now in
    let from = c.args.f.end_of_prompt in
    let short = prompt_within c.requires c.span_of.ensures in
    let all : length text ≤ from + (length text - from) = omega arith in
    all_behind text from (length text - from) all ∙ ap (drop from) c.span_of.ensures
