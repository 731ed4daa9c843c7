use Rattle.fields.specs.Spans.{span_of}
use Rattle.fields.proofs.Pieces.{piece_cut}
use Rattle.fields.proofs.span_of.Goals as goal

pub returns : goal.returns
unfolding span_of
returns c = let a = c.args in piece_cut a.s.now a.p.start c.min.ensures a.p.len c.min-2.ensures
