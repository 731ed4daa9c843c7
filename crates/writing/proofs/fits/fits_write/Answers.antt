use mathlib.Core.Path.{refl}
use native.Mathlib.Omega.{arith}
use Rattle.message.specs.Found.{held_in}
use Rattle.writing.proofs.Fitting.{span_bytes, held_fits, write_fits}
use Rattle.writing.proofs.fits.fits_write.Goals as goal

pub returns : goal.returns
unfolding held_in
returns c =
    let f = c.args.f in
    record {
      each =
          λ s bytes.
          held_fits s refl
          (write_fits f.lock f.newline f.keeps_output f.first f.last f.prefix f.postfix f.wants_completion
          f.transparent _ (omega (arith, c.struct_known-11-1.given)) (omega (arith, c.struct_known-11-1.given)) (span_bytes s f.text bytes));
    }
