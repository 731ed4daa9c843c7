use Rattle.std.proofs.Common.{◌≡◌, true}
use Rattle.rules.specs.Choice.{joined}
use Rattle.parameters.specs.Lists.{sound_from, parameters_from}
use Rattle.areas.proofs.Putting.{Left}
use Rattle.writing.proofs.lists.put_settings.Given as goal

abbrev pub invariant-loop-p : goal.invariant-loop-p
invariant-loop-p l =
    let it = l.p-iterator in
    (goal.iterator-loop-p).can_next it ×
    (goal.iterator-loop-p).is_finite it ×
    (it.kind ≡ 11) × (it.list.now ≡ l.t) × (it.at ≡ l.at) ×
    (sound_from 11 l.at l.t ≡ true) ×
    Left (joined (parameters_from 11 0 l.t)) l.initial.w (joined (parameters_from 11 l.at l.t)) l.w
