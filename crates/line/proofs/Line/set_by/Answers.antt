use mathlib.Core.Path.{subst}
use Rattle.line.specs.Host.{StartableMessage}
use Rattle.line.proofs.HostAccepted.{set_as, nothing_set}
use borrow.Enum.Refused.{opened}
use Rattle.line.proofs.Line.set_by.Goals as goal

pub opens-requires : goal.opens-requires
opens-requires c =
    record { counted = c.requires.counted; startable = subst (StartableMessage c.args.s.now) c.in-StartRead.is c.requires.startable_message }

pub returns-in-Initiate : goal.returns-in-Initiate
returns-in-Initiate c = let a = c.args in set_as a.s.now a.self _ c.in-Initiate.is c.initiated.ensures

pub returns-in-StartRead : goal.returns-in-StartRead
returns-in-StartRead c = let a = c.args in set_as a.s.now a.self _ c.in-StartRead.is c.opens.ensures

pub returns-in-Characteristics : goal.returns-in-Characteristics
returns-in-Characteristics c = let a = c.args in set_as a.s.now a.self _ c.in-Characteristics.is c.with_characteristics.ensures

pub returns-in_default : goal.returns-in_default
returns-in_default c = let a = c.args in nothing_set a.s.now a.self a.m (opened c.in_default.in_default-own.keys4)
