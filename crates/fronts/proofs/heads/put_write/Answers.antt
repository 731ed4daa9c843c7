use Rattle.rules.specs.Messages.Layout.{fields_in, number_of}
use Rattle.fields.specs.Spans.{span_of}
use Rattle.fronts.proofs.Groups.{headed, flags_first, field_first, no_more}
use Rattle.rules.specs.Messages.Forms.{forms, form_of, write_widths}
use Rattle.message.specs.Found.{held_in}
use Rattle.fronts.specs.Front.{front_bytes, front_tail}
use Rattle.areas.proofs.Putting.{joins}
use Rattle.fronts.proofs.heads.put_write.Goals as goal

pub returns : goal.returns
unfolding front_bytes held_in form_of forms front_tail fields_in number_of
returns c =
    let a = c.args in
    let w = c.write_flags in
    headed 7 (span_of a.s.now a.f.text)
    (flags_first 2 write_widths w.result w.ensures (field_first 1 8 a.f.prefix_value (field_first 1 8 a.f.postfix_value no_more)))
    (joins c.put_byte.ensures (joins c.put_number.ensures (joins c.put_pair.ensures c.put_span.ensures)))
