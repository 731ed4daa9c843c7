use mathlib.Core.Path.{ap, ◌∙◌}
use Rattle.rules.specs.Settings.{largest_read_in}
use Rattle.settings.proofs.moving.largest_read_of.Goals as goal

pub returns : goal.returns
returns c = c.word_at.ensures ∙ ap largest_read_in c.section_in.ensures
