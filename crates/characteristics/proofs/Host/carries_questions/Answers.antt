use mathlib.Core.Path.{◌∙◌}
use Rattle.characteristics.specs.View.{host_view}
use Rattle.rules.proofs.Numbers.{message_area_lem}
use Rattle.characteristics.proofs.ReportLaws.{not_carried_lem, carried_size}
use Rattle.characteristics.proofs.Host.carries_questions.Goals as goal

pub returns-then-all_carried : goal.returns-then-all_carried
returns-then-all_carried c s =
    let args = c.args in
    carried_size args.list.now (host_view args.self) s c.all_carried.ensures c.if-all_carried.true
    message_area_lem (c.report_size.ensures (host_view args.self))

pub returns-else-all_carried : goal.returns-else-all_carried
returns-else-all_carried c s =
    let args = c.args in
    let none = c.if-all_carried.false in
    none ∙ not_carried_lem args.list.now (host_view args.self) s c.all_carried.ensures none
