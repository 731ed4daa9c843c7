use mathlib.Core.Path.{ap, ◌∙◌}
use Rattle.rules.specs.Choice.{bit}
use Rattle.areas.proofs.Putting.{equals}
use Rattle.characteristics.specs.View.{host_view}
use Rattle.characteristics.proofs.ReportLaws.{attribute_answer, switch_answer}
use Rattle.characteristics.proofs.Host.put_answer.Goals as goal

pub returns-then-p-eq-CHARACTER_ATTRIBUTES : goal.returns-then-p-eq-CHARACTER_ATTRIBUTES
returns-then-p-eq-CHARACTER_ATTRIBUTES c i s is =
    equals (attribute_answer is (host_view c.args.self) c.if-p-eq-CHARACTER_ATTRIBUTES.true c.attribute-attributes.ensures)
    c.put_setting.ensures

pub returns : goal.returns
returns c i s is =
    equals
    (switch_answer is (host_view c.args.self) c.if-p-eq-CHARACTER_ATTRIBUTES.false
    (c.bit_of-value.ensures ∙ ap bit c.value.ensures))
    c.put_setting-2.ensures
