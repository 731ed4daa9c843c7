use Rattle.std.proofs.Common.{rules}
use mathlib.Core.Path.{ap₂}
use Rattle.characteristics.specs.View as host
use Rattle.characteristics.specs.Lists.{report_bytes}
use Rattle.areas.proofs.Putting.{equals}
use Rattle.line.proofs.HostAccepted.{reported_as, nothing_reported}
use borrow.Enum.Refused.{opened}
use Rattle.line.proofs.Line.reports.Goals as goal

pub returns-in-ReadCharacteristics : goal.returns-in-ReadCharacteristics
returns-in-ReadCharacteristics c =
    let a = c.args in
    let bytes = ap₂ (λ h bs. report_bytes (host.host_view h) bs) c.host_in-host.ensures c.span_of-list.ensures in
    let report = equals bytes c.put_report.ensures in
    reported_as a.s.now a.self a.messages.now _ _ c.in-ReadCharacteristics.is (search rules)

pub returns-in_default : goal.returns-in_default
returns-in_default c = let a = c.args in nothing_reported a.s.now a.self a.m a.messages.now (opened c.in_default.in_default-own.keys2)
