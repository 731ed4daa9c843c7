use Rattle.std.proofs.Common.{◌∙◌}
use Rattle.rules.specs.Choice.{pick}
use Rattle.rules.specs.Messages.Forms as forms
use Rattle.parameters.specs.Lists.{shape_of, kind_shape}
use Rattle.parameters.proofs.Shapes.{sound_alike}
use Rattle.parameters.proofs.is_sound_list.Goals as goal

pub returns-in-Initiation : goal.returns-in-Initiation
unfolding shape_of kind_shape pick
returns-in-Initiation c =
    let a = c.args in
    c.are_sound.ensures ∙ sound_alike forms.initiate a.kind c.in-Initiation.ensures a.from a.s.now

pub returns-in-Question : goal.returns-in-Question
unfolding shape_of kind_shape pick
returns-in-Question c =
    let a = c.args in
    c.are_sound-in-Question.ensures ∙ sound_alike forms.read_characteristics a.kind c.in-Question.ensures a.from a.s.now

pub returns-in-Setting : goal.returns-in-Setting
unfolding shape_of kind_shape pick
returns-in-Setting c =
    let a = c.args in
    c.are_sound-in-Setting.ensures ∙ sound_alike forms.characteristics a.kind c.in-Setting.ensures a.from a.s.now
