use mathlib.Core.Path.{sym, ap, ap₂, ◌∙◌}
use mathlib.Core.Bool.{not, ◌||◌}
use Rattle.rules.specs.Choice.{is_on, is_empty}
use Rattle.rules.proofs.Choice.{empty_length}
use Rattle.rules.specs.Write.{affix_bytes, own_bytes, has_output}
use Rattle.line.proofs.WriteLaws.{some_append}
use Rattle.line.proofs.write.has_output.Goals as goal

pub returns : goal.returns
unfolding has_output own_bytes
returns c =
    let a = c.args in
    let f = a.f in
    let before = affix_bytes f.prefix f.prefix_value in
    let behind = affix_bytes f.postfix f.postfix_value in λ s text.
    let some = ap not (sym (empty_length a.«data».now)) ∙ ap (λ bs. not (is_empty bs)) text in
    let first = ap₂ ◌||◌ (c.has_affix.ensures f.prefix_value) some ∙ some_append before _ in
    let own = ap₂ ◌||◌ first (c.has_affix-2.ensures f.postfix_value) ∙ some_append _ behind in
    ap (λ o. o || is_on f.newline) own
