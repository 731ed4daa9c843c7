use mathlib.Core.Path.{sym, ap}
use mathlib.Core.Bool.{◌&&◌}
use lib.Dec.{leb}
use Rattle.rules.specs.Choice.{within}
use Rattle.rules.specs.Messages.Codec.{sound_length}
use Rattle.rules.proofs.Numbers.{message_size_lem}
use Rattle.line.proofs.refusals.is_sound_length.Goals as goal

pub returns : goal.returns
unfolding sound_length within
returns c = ap (λ n. leb 1 c.args.size && leb c.args.size n) (sym message_size_lem)
