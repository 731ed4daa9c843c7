use mathlib.Core.Path.{ap}
use Prim.Native.Nat.{◌%◌}
use mathlib.Core.List.{◌∷◌, ◌++◌}
use lib.ListN.{length}
use Rattle.rules.specs.Messages.Layout.{fields_in, number_of, write_groups}
use Rattle.fields.specs.Spans.{span_of}
use Rattle.message.specs.Found.{start_read_in}
use Rattle.fronts.proofs.Groups.{headed, flags_first, field_first, no_more}
use Rattle.rules.specs.Messages.Forms.{forms, form_of, start_read_widths}
use Rattle.message.specs.Found.{held_in}
use Rattle.fronts.specs.Front.{front_bytes, front_tail}
use Rattle.areas.proofs.Putting.{equals, joins}
use Rattle.fronts.proofs.start_read.put_start_read.Goals as goal

pub returns : goal.returns
unfolding front_bytes held_in form_of forms front_tail fields_in number_of start_read_in
returns c =
    let a = c.args in
    let w = c.start_read_flags in
    let bytes = c.span_of-set in
    let numbers = (start_read_in a.s.now a.f).numbers in
    let rest = span_of a.s.now a.f.set ++ span_of a.s.now a.f.text in
    equals (ap (λ b. 2 ∷ (write_groups (form_of 2).head numbers ++ length b % 256 ∷ rest)) bytes.ensures)
    (headed 2 (length bytes.result.now % 256 ∷ rest)
    (flags_first 3 start_read_widths w.result w.ensures
    (field_first 2 16 a.f.max_length (field_first 2 16 a.f.end_of_data (field_first 2 16 a.f.timeout
    (field_first 2 16 a.f.end_of_prompt (field_first 2 16 a.f.start_of_display (field_first 2 16 a.f.low_water no_more)))))))
    (joins c.put_byte.ensures (joins c.put_number.ensures (joins c.put_words.ensures (joins c.put_byte-2.ensures (joins (equals bytes.ensures c.put_bytes.ensures) c.put_span.ensures))))))
