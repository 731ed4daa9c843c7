use mathlib.Core.List.{[]}
use Rattle.rules.specs.Messages.Layout.{fields_in}
use Rattle.fronts.proofs.Groups.{headed, none_first, field_first, no_more}
use Rattle.rules.specs.Messages.Forms.{forms, form_of}
use Rattle.message.specs.Found.{held_in}
use Rattle.fronts.specs.Front.{front_bytes, front_tail}
use Rattle.areas.proofs.Putting.{joins}
use Rattle.fronts.proofs.heads.put_input_count.Goals as goal

pub returns : goal.returns
unfolding front_bytes held_in form_of forms front_tail fields_in
returns c s =
    let a = c.args in
    headed 13 [] (none_first (field_first 2 16 a.count no_more))
    (joins c.put_pair.ensures c.put_word.ensures)
