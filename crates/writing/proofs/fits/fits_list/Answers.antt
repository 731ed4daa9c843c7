use mathlib.Core.Path.{ap, ◌∙◌}
use Rattle.parameters.specs.Lists.{sound_from}
use Rattle.writing.proofs.fits.fits_list.Goals as goal

pub returns : goal.returns
returns c =
    c.is_sound_list.ensures ∙ ap (sound_from c.args.kind 0) c.span_of-t.ensures
