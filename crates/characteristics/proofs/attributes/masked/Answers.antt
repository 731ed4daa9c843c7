use Rattle.characteristics.proofs.Masks.{masked_byte}
use native.Mathlib.Omega.{arith}
use Rattle.characteristics.proofs.attributes.masked.Goals as goal

pub returns : goal.returns
returns c = masked_byte c.args.mask c.args.old c.args.new (omega arith)
