use Rattle.fields.proofs.Pieces.{rest_cut}
use Rattle.fields.proofs.rest_from.Goals as goal

pub returns : goal.returns
returns c = rest_cut c.args.s.now c.args.at c.min.ensures
