use mathlib.Core.Path.{refl}
use native.Mathlib.Omega.{arith}
use Rattle.message.specs.Found.{held_in}
use Rattle.writing.proofs.Fitting.{span_bytes, held_fits, read_data_fits}
use Rattle.writing.proofs.fits.fits_read_data.Goals as goal

pub returns : goal.returns
unfolding held_in
returns c =
    let f = c.args.f in
    record {
      each =
          λ s bytes.
          held_fits s refl
          (read_data_fits f.code f.more _ (omega arith) (omega arith) (omega arith) (omega arith) (span_bytes s f.text bytes));
    }
