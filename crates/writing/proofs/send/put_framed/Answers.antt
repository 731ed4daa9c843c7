use mathlib.Core.Path.{ap, ◌∙◌}
use Rattle.rules.specs.Messages.Layout.{bytes_of}
use Rattle.writing.specs.Spans.{spanned_size}
use Rattle.areas.proofs.Putting.{equals, joins}
use Rattle.writing.proofs.Lengths.{sent_framed}
use Rattle.writing.proofs.send.put_framed.Goals as goal

pub returns : goal.returns
returns c =
    let size = c.size-size.ensures ∙ ap spanned_size c.of.ensures in
    let front = joins (equals (ap (bytes_of 2) size) c.put_number.ensures) c.put_message.ensures in
    record { sent = λ x k. equals (sent_framed k) front; front = front }
