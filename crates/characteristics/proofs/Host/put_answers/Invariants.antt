use Rattle.std.proofs.Common.{◌≡◌}
use Rattle.areas.proofs.Putting.{Left}
use Rattle.characteristics.specs.View.{host_view}
use Rattle.characteristics.specs.Lists.{answers_from}
use Rattle.characteristics.proofs.Host.put_answers.Given as goal

abbrev pub invariant-loop-p : goal.invariant-loop-p
invariant-loop-p l =
    let it = l.p-iterator in
    (goal.iterator-loop-p).can_next it ×
    (goal.iterator-loop-p).is_finite it ×
    (it.kind ≡ 10) ×
    Left (answers_from 0 l.list (host_view l.self)) l.initial.w (answers_from it.at it.list.now (host_view l.self)) l.w
