use mathlib.Core.List.{[]}
use Rattle.rules.specs.Messages.Layout.{fields_in}
use Rattle.rules.specs.Messages.Forms.{forms, form_of}
use Rattle.message.specs.Found.{held_in}
use Rattle.fronts.specs.Front.{front_bytes, front_tail}
use Rattle.areas.proofs.Putting.{nothing}
use Rattle.fronts.proofs.Groups.{headed, held_as, none_first, field_first, no_more}
use Rattle.fronts.proofs.put_message.Goals as goal

pub returns-in-Initiate : goal.returns-in-Initiate
returns-in-Initiate c = held_as c.args.s.now c.in-Initiate.is c.put_initiate.ensures

pub returns-in-StartRead : goal.returns-in-StartRead
returns-in-StartRead c = held_as c.args.s.now c.in-StartRead.is c.put_start_read.ensures

pub returns-in-ReadData : goal.returns-in-ReadData
returns-in-ReadData c = held_as c.args.s.now c.in-ReadData.is c.put_read_data.ensures

pub returns-in-OutOfBand : goal.returns-in-OutOfBand
returns-in-OutOfBand c = held_as c.args.s.now c.in-OutOfBand.is (c.put_out_of_band.ensures _)

pub returns-in-Unread : goal.returns-in-Unread
unfolding front_bytes held_in form_of forms front_tail fields_in
returns-in-Unread c = held_as c.args.s.now c.in-Unread.is (headed 5 [] (field_first 1 1 _ no_more) c.put_pair.ensures)

pub returns-in-ClearInput : goal.returns-in-ClearInput
unfolding front_bytes held_in form_of forms front_tail fields_in
returns-in-ClearInput c = held_as c.args.s.now c.in-ClearInput.is (headed 6 [] (none_first no_more) c.put_pair-in-ClearInput.ensures)

pub returns-in-Write : goal.returns-in-Write
returns-in-Write c = held_as c.args.s.now c.in-Write.is c.put_write.ensures

pub returns-in-WriteCompletion : goal.returns-in-WriteCompletion
returns-in-WriteCompletion c = held_as c.args.s.now c.in-WriteCompletion.is (c.put_write_completion.ensures _)

pub returns-in-DiscardState : goal.returns-in-DiscardState
unfolding front_bytes held_in form_of forms front_tail fields_in
returns-in-DiscardState c = held_as c.args.s.now c.in-DiscardState.is (headed 9 [] (field_first 1 1 _ no_more) c.put_pair-in-DiscardState.ensures)

pub returns-in-ReadCharacteristics : goal.returns-in-ReadCharacteristics
unfolding front_bytes held_in form_of forms front_tail fields_in
returns-in-ReadCharacteristics c = held_as c.args.s.now c.in-ReadCharacteristics.is (headed 10 [] (none_first no_more) c.put_pair-in-ReadCharacteristics.ensures)

pub returns-in-Characteristics : goal.returns-in-Characteristics
unfolding front_bytes held_in form_of forms front_tail fields_in
returns-in-Characteristics c = held_as c.args.s.now c.in-Characteristics.is (headed 11 [] (none_first no_more) c.put_pair-in-Characteristics.ensures)

pub returns-in-CheckInput : goal.returns-in-CheckInput
unfolding front_bytes held_in form_of forms front_tail fields_in
returns-in-CheckInput c = held_as c.args.s.now c.in-CheckInput.is (headed 12 [] (none_first no_more) c.put_pair-in-CheckInput.ensures)

pub returns-in-InputCount : goal.returns-in-InputCount
returns-in-InputCount c = held_as c.args.s.now c.in-InputCount.is (c.put_input_count.ensures _)

pub returns-in-InputState : goal.returns-in-InputState
unfolding front_bytes held_in form_of forms front_tail fields_in
returns-in-InputState c = held_as c.args.s.now c.in-InputState.is (headed 14 [] (field_first 1 1 _ no_more) c.put_pair-in-InputState.ensures)

pub returns-in-Other : goal.returns-in-Other
unfolding front_bytes held_in
returns-in-Other c = held_as c.args.s.now c.in-Other.is nothing
