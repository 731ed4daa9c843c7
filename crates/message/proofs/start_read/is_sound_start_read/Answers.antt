use Rattle.rules.specs.StartRead.{sound_fields, sound_start_read}
use Rattle.rules.proofs.Numbers.{input_size_lem}
use Rattle.message.specs.Found.{start_read_in}
use Rattle.message.proofs.start_read.is_sound_start_read.Goals as goal

pub returns : goal.returns
unfolding sound_fields sound_start_read start_read_in
returns c = λ s e. rw (input_size_lem, e, c.saturating_sub-shown.ensures)
