use mathlib.Core.Path.{refl, sym, ◌∙◌}
use mathlib.Core.List.{[], ◌∷◌}
use native.Mathlib.Omega.{arith}
use Rattle.rules.specs.Choice.{all_are}
use Rattle.rules.specs.Messages.Layout.{size_of}
use Rattle.rules.specs.Messages.Forms.{forms, form_of}
use Rattle.rules.proofs.Choice.{both}
use Rattle.fields.proofs.Numbers.{number_one}
use Rattle.message.specs.Found.{held_in, span_list_of}
use Rattle.message.proofs.Heads.{Taken, none_taken, taken, taken_first, no_more, byte_first, word_first}
use Rattle.message.proofs.Decoding.{rest_lies, text-fields}
use Rattle.message.proofs.texts.read_data_fields.Goals as goal

pub returns : goal.returns
unfolding held_in span_list_of all_are form_of forms size_of
returns c =
    let s = c.args.s.now in
    let flags : Taken (4 ∷ 1 ∷ []) c.byte_at.result _ =
    taken c.take.ensures.field c.take.ensures.rest
    (taken c.take-2.ensures.field c.take-2.ensures.rest none_taken) in
    record {
      fields = text-fields 3 s c.requires.typed
          (taken_first (c.byte_at.ensures ∙ sym (number_one 1 s)) flags
          (word_first c.word_at.ensures (omega arith)
          (byte_first c.byte_at-2.ensures (omega arith)
          (byte_first c.byte_at-3.ensures (omega arith)
          (word_first c.word_at-2.ensures (omega arith) no_more)))))
          c.rest_from.ensures refl;
      inside = λ e. both (rest_lies 3 s c.rest_from.ensures e) refl;
    }
