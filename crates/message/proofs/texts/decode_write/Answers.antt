use Rattle.std.proofs.Common.{rules, ◌≡◌, ◌≤◌, refl, Err, length, arith}
use Rattle.rules.specs.declared.refusals.Refusal.TheVariants.{Unsound}
use Rattle.rules.specs.Choice.{pick}
use Rattle.rules.specs.Messages.Layout.{size_of}
use Rattle.rules.specs.Messages.Forms.{forms, form_of}
use Rattle.rules.specs.Messages.Codec.{defined_fields, whole_tail}
use Rattle.message.specs.Found.{held_in}
use Rattle.message.proofs.Decoding.{head_cut, field_undefined, defined_as, decodes_sound}
use Rattle.message.proofs.texts.decode_write.Goals as goal

pub returns-in_err-at_least : goal.returns-in_err-at_least
unfolding form_of forms size_of
returns-in_err-at_least c =
    let e : c.from_residual.result ≡ Err Unsound = search rules in
    let short : 5 ≤ length c.args.s.now → ⊥ = search rules in
    rw e (head_cut 7 c.args.s.now (omega arith))

pub returns-then-f : goal.returns-then-f
unfolding held_in form_of forms size_of whole_tail defined_fields pick
returns-then-f c =
    let s = c.args.s.now in
    let e = c.write_fields-f.ensures in
    let long : 5 ≤ length s = search rules in
    decodes_sound 7 s e long refl (defined_as 7 s e.fields c.if-f.true)

pub returns : goal.returns
unfolding held_in defined_fields pick
returns c =
    let s = c.args.s.now in
    field_undefined 7 s (defined_as 7 s c.write_fields-f.ensures.fields c.if-f.false)
