use Rattle.rules.specs.Settings.{section_length, front_section}
use Rattle.fields.proofs.Pieces.{piece_cut}
use Rattle.settings.proofs.sections.front.Goals as goal

pub returns : goal.returns
unfolding front_section
returns c = let s = c.args.rest.now in piece_cut s 2 c.min.ensures (section_length s) c.kept_end.ensures
