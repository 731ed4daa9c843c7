use Rattle.std.proofs.Common.{◌≡◌}
use Rattle.parameters.specs.Lists.{sound_from}
use Rattle.parameters.proofs.are_sound.Given as goal

-- the list is sound where what is left of it is
abbrev pub invariant-loop-p : goal.invariant-loop-p
invariant-loop-p l =
    let it = l.p-iterator in
    (goal.iterator-loop-p).can_next it ×
    (goal.iterator-loop-p).is_finite it ×
    (it.kind ≡ l.kind) × (it.list.now ≡ l.s) ×
    (sound_from l.kind l.from l.s ≡ sound_from l.kind it.at l.s)
