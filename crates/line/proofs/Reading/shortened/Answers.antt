use Rattle.line.proofs.InputLaws.{left_becomes}
use Rattle.line.proofs.Reading.shortened.Goals as goal

pub returns : goal.returns
returns c =
    left_becomes c.args.t c.args.self c.args.left _ c.requires c.min.ensures
