use Rattle.std.proofs.Common.{ap, ◌∙◌, replicate}
use native.Mathlib.Omega.{arith}
use Rattle.std.proofs.lemmas.List.{take-replicate}
use Rattle.rules.specs.Messages.Parameters.{question_limits, value_limits}
use Rattle.fields.proofs.Numbers.{number_two}
use Rattle.parameters.specs.Lists.{kind_shape}
use Rattle.parameters.proofs.Shapes.{masks_by, whole_masks}
use Rattle.parameters.proofs.kinds.ListKind.masks_at.Goals as goal

pub returns-in-Initiation : goal.returns-in-Initiation
unfolding kind_shape
returns-in-Initiation c =
    let a = c.args in
    take-replicate c.byte_at.result 255 255 (omega arith) ∙
    whole_masks c.byte_at.result ∙
    masks_by a.at a.s.now (ap kind_shape c.in-Initiation.is) (ap (λ n. replicate n 256) c.byte_at.ensures)

pub returns-in-Question : goal.returns-in-Question
unfolding kind_shape
returns-in-Question c =
    let a = c.args in
    c.question_masks.ensures ∙
    masks_by a.at a.s.now (ap kind_shape c.in-Question.is) (ap question_limits (c.word_at.ensures ∙ number_two a.at a.s.now))

pub returns-in-Setting : goal.returns-in-Setting
unfolding kind_shape
returns-in-Setting c =
    let a = c.args in
    c.setting_masks.ensures ∙
    masks_by a.at a.s.now (ap kind_shape c.in-Setting.is) (ap value_limits (c.word_at-in-Setting.ensures ∙ number_two a.at a.s.now))
