use mathlib.Core.Path.{sym}
use lib.Seq.{length-take-le}
use Rattle.line.proofs.InputAppended.{hidden_stands, hidden_before, none_before}
use Rattle.line.proofs.start_read.front_of.Goals as goal

pub slice_bounds-result-count : goal.slice_bounds-result-count
slice_bounds-result-count c = hidden_stands c.args.hidden c.args.end c.if-hidden-end.true

pub slice_bounds-result-start : goal.slice_bounds-result-start
slice_bounds-result-start c = hidden_stands c.args.hidden c.args.end c.if-hidden-end.true

pub returns-then-hidden-end : goal.returns-then-hidden-end
returns-then-hidden-end c =
    let a = c.args in
    hidden_before a.hidden a.end a.text.now c.if-hidden-end.true

pub slice_bounds-result-end-2 : goal.slice_bounds-result-end-2
slice_bounds-result-end-2 c =
    sym (length-take-le c.args.end c.args.text.now c.requires)

pub returns : goal.returns
returns c =
    let a = c.args in
    none_before a.hidden a.end a.text.now c.if-hidden-end.false
