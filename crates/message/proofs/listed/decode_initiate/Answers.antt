use Rattle.std.proofs.Common.{rules, ◌≡◌, refl, Err, arith}
use borrow.Author.Tests.{le-leb}
use Rattle.rules.specs.declared.refusals.Refusal.TheVariants.{Unsound}
use Rattle.rules.specs.Choice.{pick, all_are}
use Rattle.rules.specs.Messages.Layout.{size_of}
use Rattle.rules.specs.Messages.Parameters.{initiation}
use Rattle.rules.specs.Messages.Forms.{forms, form_of}
use Rattle.rules.specs.Messages.Codec.{behind_head, whole_tail}
use Rattle.rules.proofs.Choice.{both}
use Rattle.fields.specs.Spans.{span_of}
use Rattle.parameters.specs.Lists.{shape_of, sound_from}
use Rattle.message.specs.Found.{held_in, span_list_of}
use Rattle.message.proofs.Heads.{none_first, byte_first, bytes_run}
use Rattle.message.proofs.Decoding.{is_free, list_unsound, rest_lies, list-fields, free_defined, decodes_sound}
use Rattle.message.proofs.listed.decode_initiate.Goals as goal

pub returns-in_err-parameters : goal.returns-in_err-parameters
unfolding form_of forms size_of behind_head whole_tail sound_from shape_of pick
returns-in_err-parameters c =
    let found = c.in_err-parameters.ensures in
    let e : c.from_residual.result ≡ Err Unsound = search rules in
    rw e (list_unsound 1 c.args.s.now found.1)

pub returns : goal.returns
unfolding span_of held_in span_list_of all_are form_of forms size_of behind_head whole_tail sound_from shape_of pick is_free
returns c =
    let s = c.args.s.now in
    let found = c.in_ok-parameters.ensures in
    decodes_sound 1 s
    (record {
      fields = list-fields 1 s c.requires.typed
          (none_first
          (byte_first c.byte_at.ensures (omega arith)
          (byte_first c.byte_at-2.ensures (omega arith)
          (byte_first c.byte_at-3.ensures (omega arith)
          (bytes_run 8 5 s (λ i. omega (arith, c.type_inv.s i)) (omega (arith, found.0)))))))
          found.2 initiation refl;
      inside = λ e. both (le-leb 13 _ found.0) (both (rest_lies 1 s found.2 e) refl);
    })
    found.0 found.1 (free_defined 1 s c.requires.typed refl)
