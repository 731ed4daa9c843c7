use Rattle.line.proofs.InputAppended.{shown_from}
use Rattle.line.proofs.Reading.first_shown.Goals as goal

pub returns : goal.returns
returns c = rw c.from.ensures (shown_from c.args.self)
