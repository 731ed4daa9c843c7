use Rattle.std.proofs.Common.{sym, ap, ◌∙◌}
use Rattle.rules.specs.Messages.Parameters.{defined_selector}
use Rattle.parameters.specs.Lists.{kind_shape, known_bytes}
use Rattle.parameters.proofs.Shapes.{both_halves}
use Rattle.parameters.proofs.kinds.ListKind.defines.Goals as goal

pub returns-in-Initiation : goal.returns-in-Initiation
unfolding kind_shape
returns-in-Initiation c = sym (ap (λ k. (kind_shape k).defined (known_bytes c.args.p)) c.in-Initiation.is)

pub returns-in-Question : goal.returns-in-Question
unfolding kind_shape
returns-in-Question c =
    c.is_defined.ensures ∙
    ap defined_selector (sym (both_halves c.args.p.selector)) ∙
    sym (ap (λ k. (kind_shape k).defined (known_bytes c.args.p)) c.in-Question.is)

pub returns-in-Setting : goal.returns-in-Setting
unfolding kind_shape
returns-in-Setting c = c.has_defined_value.ensures ∙ sym (ap (λ k. (kind_shape k).defined (known_bytes c.args.p)) c.in-Setting.is)
