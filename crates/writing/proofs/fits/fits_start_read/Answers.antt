use Rattle.writing.proofs.Fitting.{start_read_fits}
use Rattle.writing.proofs.fits.fits_start_read.Goals as goal

pub returns : goal.returns
returns c =
    let f = c.args.f in
    record { each = λ s bytes. start_read_fits s f bytes c.fits_flags-flags.ensures (c.is_sound_start_read-sound.ensures s) }
