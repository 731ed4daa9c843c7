use mathlib.Core.Path.{refl, ◌∙◌}
use native.Mathlib.Omega.{arith}
use Rattle.rules.specs.Choice.{pick, is_empty}
use Rattle.rules.specs.Messages.Layout.{widths_of, fits}
use Rattle.rules.specs.Messages.Forms.{forms, form_of}
use Rattle.rules.specs.Messages.Codec.{defined_fields, fits_tail, fits_as, fits_held}
use Rattle.message.specs.Found.{held_in}
use Rattle.rules.proofs.Bounds.Bytes.{bytes_all}
use Rattle.writing.proofs.Fitting.{fits_as_lem, held_fits, unread_fits, discard_fits, state_fits, band_fits, completion_fits, count_fits}
use Rattle.writing.proofs.WholeLists.{question_fits, setting_fits}
use Rattle.writing.proofs.fits.fits_message.Goals as goal

pub returns-in-Initiate : goal.returns-in-Initiate
returns-in-Initiate c = fits_as_lem c.args.s.now c.in-Initiate.is c.fits_initiate.ensures

pub returns-in-StartRead : goal.returns-in-StartRead
returns-in-StartRead c = fits_as_lem c.args.s.now c.in-StartRead.is (c.fits_start_read.ensures.each _ (bytes_all c.args.s.now (λ i. omega (arith, c.type_inv.s i))))

pub returns-in-ReadData : goal.returns-in-ReadData
returns-in-ReadData c = fits_as_lem c.args.s.now c.in-ReadData.is (c.fits_read_data.ensures.each _ (bytes_all c.args.s.now (λ i. omega (arith, c.type_inv.s i))))

pub returns-in-OutOfBand : goal.returns-in-OutOfBand
returns-in-OutOfBand c = held_fits c.args.s.now c.in-OutOfBand.is (band_fits _ _ _ (omega arith))

pub returns-in-Unread : goal.returns-in-Unread
returns-in-Unread c = held_fits c.args.s.now c.in-Unread.is (unread_fits _ _)

pub returns-in-ClearInput : goal.returns-in-ClearInput
unfolding held_in fits_held fits_as form_of forms widths_of fits fits_tail defined_fields pick is_empty
returns-in-ClearInput c = held_fits c.args.s.now c.in-ClearInput.is refl

pub returns-in-Write : goal.returns-in-Write
returns-in-Write c = fits_as_lem c.args.s.now c.in-Write.is (c.fits_write.ensures.each _ (bytes_all c.args.s.now (λ i. omega (arith, c.type_inv.s i))))

pub returns-in-WriteCompletion : goal.returns-in-WriteCompletion
returns-in-WriteCompletion c = held_fits c.args.s.now c.in-WriteCompletion.is (completion_fits _ _ _ _ (omega arith) (omega arith))

pub returns-in-DiscardState : goal.returns-in-DiscardState
returns-in-DiscardState c = held_fits c.args.s.now c.in-DiscardState.is (discard_fits _ _)

pub returns-in-ReadCharacteristics : goal.returns-in-ReadCharacteristics
unfolding held_in
returns-in-ReadCharacteristics c = held_fits c.args.s.now c.in-ReadCharacteristics.is (c.fits_list.ensures ∙ question_fits _ _ (bytes_all c.args.s.now (λ i. omega (arith, c.type_inv.s i))))

pub returns-in-Characteristics : goal.returns-in-Characteristics
unfolding held_in
returns-in-Characteristics c = held_fits c.args.s.now c.in-Characteristics.is (c.fits_list-in-Characteristics.ensures ∙ setting_fits _ _ (bytes_all c.args.s.now (λ i. omega (arith, c.type_inv.s i))))

pub returns-in-CheckInput : goal.returns-in-CheckInput
unfolding held_in fits_held fits_as form_of forms widths_of fits fits_tail defined_fields pick is_empty
returns-in-CheckInput c = held_fits c.args.s.now c.in-CheckInput.is refl

pub returns-in-InputCount : goal.returns-in-InputCount
returns-in-InputCount c = held_fits c.args.s.now c.in-InputCount.is (count_fits _ _ (omega arith))

pub returns-in-InputState : goal.returns-in-InputState
returns-in-InputState c = held_fits c.args.s.now c.in-InputState.is (state_fits _ _)

pub returns-in-Other : goal.returns-in-Other
unfolding held_in fits_held fits_as form_of forms widths_of fits fits_tail defined_fields pick is_empty
returns-in-Other c = held_fits c.args.s.now c.in-Other.is refl
