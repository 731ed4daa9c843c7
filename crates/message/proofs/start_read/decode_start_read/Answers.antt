use Rattle.std.proofs.Common.{rules, ◌≡◌, ◌+◌, ◌≤◌, ◌∙◌, sym, Err, length, arith}
use lib.Dec.{leb}
use borrow.Author.Tests.{lt-ltb}
use Rattle.rules.specs.declared.refusals.Refusal.TheVariants.{Unsound}
use Rattle.rules.specs.Choice.{pick}
use Rattle.rules.specs.Messages.Layout.{size_of}
use Rattle.rules.specs.Messages.Forms.{forms, form_of}
use Rattle.rules.specs.Messages.Codec.{defined_fields}
use Rattle.rules.proofs.Choice.{both, halves}
use Rattle.message.specs.Found.{start_read_in, held_in}
use Rattle.message.proofs.Decoding.{defined_as, decodes_sound}
use Rattle.message.proofs.SetAndText.{whole_set, set_cut, set_unsound}
use Rattle.message.proofs.start_read.decode_start_read.Goals as goal

pub returns-in_err-at_least : goal.returns-in_err-at_least
returns-in_err-at_least c =
    let e : c.from_residual.result ≡ Err Unsound = search rules in
    let short : 17 + c.byte_at-count.result ≤ length c.args.s.now → ⊥ = search rules in
    rw e (set_cut c.args.s.now c.byte_at-count.ensures short)

pub returns-then-count-is_sound_start_read : goal.returns-then-count-is_sound_start_read
unfolding held_in form_of forms size_of start_read_in defined_fields pick
returns-then-count-is_sound_start_read c =
    let s = c.args.s.now in
    let count = c.byte_at-count.result in
    let is = c.start_read_fields-f.ensures in
    let long : 17 + count ≤ length s = search rules in
    let tests = halves (leb count 32) c.is_sound_start_read.result c.if-count-is_sound_start_read.true in
    decodes_sound 2 s is.found (omega arith)
    (whole_set s c.byte_at-count.ensures ∙ both (lt-ltb count _ (omega arith)) tests.0)
    (defined_as 2 s is.found.fields (sym (c.is_sound_start_read.ensures s is.long) ∙ tests.1))

pub returns : goal.returns
unfolding held_in start_read_in defined_fields pick
returns c =
    let s = c.args.s.now in
    let is = c.start_read_fields-f.ensures in
    set_unsound s c.byte_at-count.ensures (defined_as 2 s is.found.fields (sym (c.is_sound_start_read.ensures s is.long)))
    c.if-count-is_sound_start_read.false
