use mathlib.Core.Path.{sym, ap, ◌∙◌}
use borrow.Author.Tests.{eq-eqb, ne_eqb}
use Rattle.rules.specs.Choice.{joined}
use Rattle.rules.proofs.Choice.{pick_true, pick-false}
use Rattle.parameters.specs.Lists.{sound_from, parameters_from}
use Rattle.areas.proofs.Putting.{equals}
use Rattle.writing.specs.Spans.{list_bytes}
use Rattle.writing.proofs.lists.put_list.Goals as goal

pub put_settings-requires : goal.put_settings-requires
put_settings-requires c =
    ap (sound_from 11 0) c.span_of-t.ensures ∙ c.requires c.if-kind-eq-CHARACTERISTICS.true

pub returns-then-kind-eq-CHARACTERISTICS : goal.returns-then-kind-eq-CHARACTERISTICS
unfolding list_bytes
returns-then-kind-eq-CHARACTERISTICS c =
    let kind = c.args.kind in
    let bytes = ap (λ t. joined (parameters_from 11 0 t)) c.span_of-t.ensures in
    equals (bytes ∙ sym (pick_true _ _ (eq-eqb kind 11 c.if-kind-eq-CHARACTERISTICS.true))) c.put_settings.ensures

pub returns : goal.returns
unfolding list_bytes
returns c =
    let kind = c.args.kind in
    equals (c.span_of-t.ensures ∙ sym (pick-false _ _ (ne_eqb kind 11 c.if-kind-eq-CHARACTERISTICS.false))) c.put_bytes.ensures
