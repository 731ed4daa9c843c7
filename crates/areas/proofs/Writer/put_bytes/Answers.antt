use Rattle.std.proofs.Common.{sym}
use Rattle.std.proofs.lemmas.List.{take_more}
use Rattle.areas.proofs.Putting.{nothing, equals, joins}
use Rattle.areas.proofs.Writer.put_bytes.Goals as goal

pub loop-byte-init : goal.loop-byte-init
loop-byte-init c = nothing

pub loop-byte-preserved : goal.loop-byte-preserved
loop-byte-preserved c = equals (sym (take_more _ _ 0 c.loop-byte-test.true)) (joins c.loop-byte.invariant c.put_byte.ensures)
