use Rattle.std.proofs.Common.{rules, ◌≡◌, ◌≤◌, refl, Err, length, arith}
use borrow.Author.Tests.{le-leb, lt-leb}
use Rattle.rules.specs.declared.refusals.Refusal.TheVariants.{Unsound}
use Rattle.rules.specs.Choice.{pick}
use Rattle.rules.specs.Messages.Layout.{size_of}
use Rattle.rules.specs.Messages.Forms.{forms, form_of}
use Rattle.rules.specs.Messages.Codec.{defined_fields, whole_tail}
use Rattle.message.specs.Found.{held_in}
use Rattle.message.proofs.Decoding.{head_cut, field_undefined, defined_as, decodes_sound}
use Rattle.message.proofs.texts.decode_read_data.Goals as goal

pub returns-in_err-at_least : goal.returns-in_err-at_least
unfolding form_of forms size_of
returns-in_err-at_least c =
    let e : c.from_residual.result ≡ Err Unsound = search rules in
    let short : 8 ≤ length c.args.s.now → ⊥ = search rules in
    rw e (head_cut 3 c.args.s.now (omega arith))

pub returns-then-f-gt-LAST_COMPLETION_CODE : goal.returns-then-f-gt-LAST_COMPLETION_CODE
unfolding held_in defined_fields pick
returns-then-f-gt-LAST_COMPLETION_CODE c =
    let s = c.args.s.now in
    field_undefined 3 s (defined_as 3 s c.read_data_fields-f.ensures.fields (lt-leb _ _ c.if-f-gt-LAST_COMPLETION_CODE.true))

pub returns : goal.returns
unfolding held_in form_of forms size_of whole_tail defined_fields pick
returns c =
    let s = c.args.s.now in
    let e = c.read_data_fields-f.ensures in
    let long : 8 ≤ length s = search rules in
    decodes_sound 3 s e long refl (defined_as 3 s e.fields (le-leb _ _ c.if-f-gt-LAST_COMPLETION_CODE.false))
