use Rattle.line.specs.View.{view}
use Rattle.line.proofs.HostAccepted.{start_passed, other_passed}
use borrow.Enum.Refused.{opened}
use Rattle.line.proofs.Line.passes_test.Goals as goal

pub returns-in-StartRead : goal.returns-in-StartRead
returns-in-StartRead c =
    start_passed c.args.self _ c.in-StartRead.is

pub returns-in_default : goal.returns-in_default
returns-in_default c = let a = c.args in λ s x g d. other_passed (view a.self) a.m (opened c.in_default.in_default-own.keys2) s x g
