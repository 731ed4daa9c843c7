use Rattle.std.proofs.Common.{rules, ◌≡◌, refl, Err}
use Rattle.rules.specs.declared.refusals.Refusal.TheVariants.{Unsound}
use Rattle.rules.specs.Choice.{pick}
use Rattle.rules.specs.Messages.Layout.{size_of}
use Rattle.rules.specs.Messages.Forms.{forms, form_of, characteristics}
use Rattle.rules.specs.Messages.Parameters.{setting}
use Rattle.rules.specs.Messages.Codec.{behind_head, whole_tail}
use Rattle.message.specs.Found.{held_in, span_list_of}
use Rattle.parameters.specs.Lists.{shape_of, sound_from}
use Rattle.message.proofs.Heads.{no_more, none_first}
use Rattle.message.proofs.Decoding.{is_free, list_unsound, list_sound}
use Rattle.message.proofs.listed.decode_characteristics.Goals as goal

pub returns-in_err-parameters : goal.returns-in_err-parameters
unfolding form_of forms size_of behind_head whole_tail sound_from shape_of pick
returns-in_err-parameters c =
    let found = c.in_err-parameters.ensures in
    let e : c.from_residual.result ≡ Err Unsound = search rules in
    rw e (list_unsound characteristics c.args.s.now found.1)

pub returns : goal.returns
unfolding held_in span_list_of form_of forms size_of behind_head whole_tail sound_from shape_of pick is_free
returns c =
    let found = c.in_ok-parameters.ensures in
    list_sound characteristics c.args.s.now c.requires.typed (none_first no_more) found.2 setting refl refl refl refl found.0 found.1
