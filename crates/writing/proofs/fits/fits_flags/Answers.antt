use native.Mathlib.Omega.{arith}
use mathlib.Core.Path.{refl}
use lib.Dec.{ltb}
use Rattle.rules.proofs.Choice.{both}
use Rattle.writing.proofs.Fitting.{twelve}
use borrow.Author.Tests.{lt-ltb}
use Rattle.rules.specs.Messages.Layout.{widths_of, fits}
use Rattle.rules.specs.Messages.Forms.{forms, form_of}
use Rattle.message.specs.Found.{start_read_in}
use Rattle.writing.proofs.fits.fits_flags.Goals as goal

pub returns : goal.returns
unfolding start_read_in fits widths_of form_of forms
returns c =
    let f = c.args.f in
    let k = c.struct_known-12-1.given in
    twelve
    (ltb f.underflow 4) (ltb f.clears_type_ahead 2) (ltb f.formats 2) (ltb f.vertical 2) (ltb f.continues 2) (ltb f.raises 4)
    (ltb f.disables 8) (ltb f.silent 2) (ltb f.terminator_echo 2) (ltb f.timed 2) (ltb f.set_choice 4)
    (ltb f.escapes 4)
    (both (lt-ltb f.max_length 65536 (omega (arith, k)))
    (both (lt-ltb f.end_of_data 65536 (omega (arith, k)))
    (both (lt-ltb f.timeout 65536 (omega (arith, k)))
    (both (lt-ltb f.end_of_prompt 65536 (omega (arith, k)))
    (both (lt-ltb f.start_of_display 65536 (omega (arith, k)))
    (both (lt-ltb f.low_water 65536 (omega (arith, k))) refl))))))
