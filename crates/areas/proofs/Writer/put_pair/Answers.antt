use Rattle.std.proofs.Common.{sym, arith}
use Rattle.areas.proofs.Putting.{equals, joins, one_byte}
use Rattle.areas.proofs.Writer.put_pair.Goals as goal

pub returns : goal.returns
returns c =
    joins (equals (sym (one_byte (omega arith))) c.put_byte.ensures) (equals (sym (one_byte (omega arith))) c.put_byte-2.ensures)
