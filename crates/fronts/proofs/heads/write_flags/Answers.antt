use Rattle.std.proofs.Common.{refl, arith}
use Rattle.rules.specs.Choice.{all_are}
use Rattle.rules.specs.Messages.Layout.{number_of}
use Rattle.fronts.specs.Flags.{packed}
use Rattle.fronts.proofs.heads.write_flags.Goals as goal

pub packed-requires : goal.packed-requires
unfolding packed all_are
packed-requires c = record { small = omega arith; filled = refl }

pub returns : goal.returns
unfolding packed number_of
returns c = c.packed.ensures
