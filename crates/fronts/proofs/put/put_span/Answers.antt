use Rattle.areas.proofs.Putting.{equals}
use Rattle.fronts.proofs.put.put_span.Goals as goal

pub returns : goal.returns
returns c = equals c.span_of.ensures c.put_bytes.ensures
