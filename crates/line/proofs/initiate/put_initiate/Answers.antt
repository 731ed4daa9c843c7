use mathlib.Core.Path.{ap, sym}
use Rattle.areas.proofs.Putting.{equals, joins}
use Rattle.rules.proofs.Numbers.{message_size_lem, input_size_lem}
use Rattle.line.proofs.OurInitiate.{parameter, our_bytes}
use Rattle.line.proofs.initiate.put_initiate.Goals as goal

pub returns : goal.returns
returns c =
    let message = ap (parameter 0x0201) (sym message_size_lem) in
    let input = ap (parameter 0x0202) (sym input_size_lem) in
    equals our_bytes
    (joins c.put_framed.ensures.front
    (joins (equals message c.put_parameter.ensures) (joins (equals input c.put_parameter-2.ensures) c.put_parameter-3.ensures)))
