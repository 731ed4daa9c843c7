use mathlib.Core.Path.{◌≡◌, ap, ◌∙◌}
use Prim.Native.Nat.{◌-◌, ◌≤◌, ◌+◌}
use native.Mathlib.Omega.{arith}
use lib.ListN.{length, drop}
use Rattle.rules.specs.Numbers.{input_size}
use Rattle.rules.specs.Editing.{displays}
use Rattle.fields.proofs.Pieces.{all_behind}
use Rattle.line.specs.View.{prompt_of}
use Rattle.line.specs.With.{lent}
use Rattle.rules.proofs.Numbers.{input_numeral, input_size_lem}
use Rattle.line.proofs.Turns.{then_does}
use Rattle.line.proofs.FlowChanges.{same_writes}
use Rattle.line.proofs.Work.displays.Goals as goal

pub overflow_cast-start : goal.overflow_cast-start
overflow_cast-start c = omega (arith, input_size_lem)

pub overflow_sub-start : goal.overflow_sub-start
overflow_sub-start c = omega (arith, input_size_lem)

pub slice_bounds-write-count : goal.slice_bounds-write-count
slice_bounds-write-count c = omega (arith, input_size_lem)

pub slice_bounds-write-start : goal.slice_bounds-write-start
slice_bounds-write-start c = omega (arith, input_size_lem)

pub slice_bounds-write-end : goal.slice_bounds-write-end
slice_bounds-write-end c = omega (arith, input_size_lem)

pub displays_data-requires : goal.displays_data-requires
displays_data-requires c = record { input_len_bound = c.requires.input_len_bound }

pub returns : goal.returns
unfolding displays prompt_of
returns c =
    let a = c.args in
    let text = a.text.now in
    let from = input_numeral - a.t.prompt_len in
    let all : length text ≤ from + (input_numeral - from) = omega (arith, c.told-text) in
    let place : from ≡ input_size - a.t.prompt_len = omega (arith, input_size_lem) in
    let prompt = all_behind text from (input_numeral - from) all ∙ ap (λ n. drop n text) place in
    let shown = c.displays_data.ensures in
    record { rule = λ l m. then_does (same_writes prompt (c.write-prompted.ensures.rule (lent a.t text l) m)) (shown.rule l m) }
