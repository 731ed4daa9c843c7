use mathlib.Core.Path.{sym}
use mathlib.Core.List.{[]}
use native.Mathlib.Omega.{arith}
use Rattle.rules.specs.Messages.Layout.{fields_in}
use Rattle.rules.specs.Messages.Forms.{forms, form_of}
use Rattle.message.specs.Found.{held_in}
use Rattle.fronts.specs.Front.{front_bytes, front_tail}
use Rattle.areas.proofs.Putting.{nothing, equals, joins, one_byte}
use Rattle.fronts.proofs.Groups.{headed, none_first, field_first, others}
use Rattle.fronts.proofs.heads.put_initiate.Goals as goal

pub returns : goal.returns
unfolding front_bytes held_in form_of forms front_tail fields_in
returns c =
    let a = c.args.f in
    headed 1 []
    (none_first (field_first 1 8 a.version (field_first 1 8 a.eco (field_first 1 8 a.modification others))))
    (joins c.put_pair.ensures (joins c.put_pair-2.ensures (joins (equals (sym (one_byte (omega arith))) c.put_byte.ensures) (joins c.put_revision.ensures nothing))))
