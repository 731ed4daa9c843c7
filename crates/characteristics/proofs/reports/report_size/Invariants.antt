use Rattle.std.proofs.Common.{◌≡◌, ◌+◌, ◌≤◌, length}
use Rattle.rules.specs.Numbers.{message_area}
use Rattle.rules.specs.State.{Host}
use Rattle.characteristics.specs.Lists.{answers_from, answer_to}
use Rattle.characteristics.proofs.reports.report_size.Given as goal

abbrev pub invariant-loop-p : goal.invariant-loop-p
invariant-loop-p l =
    let it = l.p-iterator in
    (goal.iterator-loop-p).can_next it ×
    (goal.iterator-loop-p).is_finite it ×
    (it.kind ≡ 10) ×
    ((h : Host) → l.size + length (answers_from it.at it.list.now h) ≡ length (answer_to l.list h)) ×
    (l.size ≤ message_area)
