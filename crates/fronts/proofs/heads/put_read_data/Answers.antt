use mathlib.Core.Path.{refl}
use Rattle.rules.specs.Choice.{all_are}
use native.Mathlib.Omega.{arith}
use mathlib.Core.List.{[], ◌∷◌}
use Rattle.rules.specs.Messages.Layout.{fields_in, number_of}
use Rattle.fields.specs.Spans.{span_of}
use Rattle.fronts.proofs.Groups.{headed, flags_first, field_first, no_more}
use Rattle.rules.specs.Messages.Forms.{forms, form_of}
use Rattle.message.specs.Found.{held_in}
use Rattle.fronts.specs.Front.{front_bytes, front_tail}
use Rattle.areas.proofs.Putting.{joins}
use Rattle.fronts.specs.Flags.{packed}
use Rattle.fronts.proofs.heads.put_read_data.Goals as goal

pub packed-flags-requires : goal.packed-flags-requires
unfolding packed all_are
packed-flags-requires c = record { small = omega arith; filled = refl }

pub returns : goal.returns
unfolding front_bytes held_in form_of forms front_tail fields_in number_of packed
returns c =
    let a = c.args in
    headed 3 (span_of a.s.now a.f.text)
    (flags_first 1 (4 ∷ 1 ∷ []) c.packed-flags.result c.packed-flags.ensures
    (field_first 2 16 a.f.low_water (field_first 1 8 a.f.vertical (field_first 1 8 a.f.horizontal (field_first 2 16 a.f.terminator no_more)))))
    (joins c.put_byte.ensures (joins c.put_number.ensures (joins c.put_word.ensures (joins c.put_pair.ensures (joins c.put_word-2.ensures c.put_span.ensures)))))
