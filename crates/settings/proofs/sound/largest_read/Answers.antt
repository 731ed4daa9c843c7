use mathlib.Core.Path.{sym, ◌∙◌}
use mathlib.Core.Bool.{◌&&◌, ◌||◌}
use lib.ListN.{length}
use lib.Dec.{eqb, leb}
use Rattle.rules.specs.Settings.{sound_largest_read}
use Rattle.rules.proofs.Choice.{empty_length}
use Rattle.settings.proofs.sound.largest_read.Goals as goal

pub returns : goal.returns
unfolding sound_largest_read
returns c =
    let s = c.args.section.now in
    λ i. (c.is_empty.ensures ∙ sym (empty_length s)) i || eqb (length s) (c.largest_read_bytes.ensures i) && leb (c.word_at.ensures i) (c.top_largest_read.ensures i)
