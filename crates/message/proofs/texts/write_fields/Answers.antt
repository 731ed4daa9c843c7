use mathlib.Core.Path.{refl}
use native.Mathlib.Omega.{arith}
use Rattle.rules.specs.Choice.{all_are}
use Rattle.rules.specs.Messages.Layout.{size_of}
use Rattle.rules.specs.Messages.Forms.{forms, form_of, write_widths}
use Rattle.rules.proofs.Choice.{both}
use Rattle.message.specs.Found.{held_in, span_list_of}
use Rattle.message.proofs.Heads.{Taken, none_taken, taken, taken_first, no_more, byte_first}
use Rattle.message.proofs.Decoding.{rest_lies, text-fields}
use Rattle.message.proofs.texts.write_fields.Goals as goal

pub returns : goal.returns
unfolding held_in span_list_of all_are form_of forms size_of
returns c =
    let s = c.args.s.now in
    let flags : Taken write_widths c.word_at.result _ =
    taken c.take.ensures.field c.take.ensures.rest
    (taken c.take-2.ensures.field c.take-2.ensures.rest
    (taken c.take-3.ensures.field c.take-3.ensures.rest
    (taken c.take-4.ensures.field c.take-4.ensures.rest
    (taken c.take-5.ensures.field c.take-5.ensures.rest
    (taken c.take-6.ensures.field c.take-6.ensures.rest
    (taken c.take-7.ensures.field c.take-7.ensures.rest
    (taken c.take-8.ensures.field c.take-8.ensures.rest
    (taken c.take-9.ensures.field c.take-9.ensures.rest none_taken)))))))) in
    record {
      fields = text-fields 7 s c.requires.typed
          (taken_first c.word_at.ensures flags
          (byte_first c.byte_at.ensures (omega arith)
          (byte_first c.byte_at-2.ensures (omega arith) no_more)))
          c.rest_from.ensures refl;
      inside = λ e. both (rest_lies 7 s c.rest_from.ensures e) refl;
    }
