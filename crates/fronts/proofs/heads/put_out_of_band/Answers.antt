use mathlib.Core.List.{[]}
use Rattle.rules.specs.Messages.Layout.{fields_in}
use Rattle.fronts.proofs.Groups.{headed, field_first, no_more}
use Rattle.rules.specs.Messages.Forms.{forms, form_of}
use Rattle.message.specs.Found.{held_in}
use Rattle.fronts.specs.Front.{front_bytes, front_tail}
use Rattle.areas.proofs.Putting.{joins}
use Rattle.fronts.proofs.heads.put_out_of_band.Goals as goal

pub returns : goal.returns
unfolding front_bytes held_in form_of forms front_tail fields_in
returns c s =
    let a = c.args in
    headed 4 [] (field_first 1 1 a.discard (field_first 1 8 a.character no_more))
    (joins c.put_byte.ensures c.put_pair.ensures)
