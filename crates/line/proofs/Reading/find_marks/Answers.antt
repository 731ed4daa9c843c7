use native.Mathlib.Omega.{arith}
use Rattle.line.proofs.RubbedOut.{rubs_none, rubs_some, rubs_all}
use Rattle.line.proofs.Reading.find_marks.Goals as goal

pub returns-then-left-gt0 : goal.returns-then-left-gt0
returns-then-left-gt0 c =
    let args = c.args in
    λ l.
    rubs_some args.left args.t args.self args.text.now l c.if-t.true c.requires c.first_shown-start.ensures
    c.shown_of-kept.ensures c.find_marks-found.ensures c.if-left-gt0.true

pub returns-then-t : goal.returns-then-t
returns-then-t c =
    let args = c.args in
    λ l.
    rubs_all args.left args.t args.self args.text.now l c.if-t.true c.requires c.first_shown-start.ensures
    c.shown_of-kept.ensures c.find_marks-found.ensures (omega arith)

pub returns : goal.returns
returns c =
    let args = c.args in
    λ l. rubs_none args.left args.t args.self args.text.now l c.if-t.false
