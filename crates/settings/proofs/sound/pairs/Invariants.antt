use Rattle.std.proofs.Common.{◌≡◌, ◌%◌, length}
use Rattle.std.specs.Slice.Iter.{chunks_exact_rest, chunks_exact_size}
use Rattle.rules.specs.Settings.{sound_pairs}
use Rattle.settings.proofs.sound.pairs.Given as goal

abbrev pub invariant-loop-pair : goal.invariant-loop-pair
invariant-loop-pair l =
    (goal.iterator-loop-pair).can_next l.pair-iterator ×
    (goal.iterator-loop-pair).is_finite l.pair-iterator ×
    (chunks_exact_size l.pair-iterator ≡ 2) ×
    (length (chunks_exact_rest l.pair-iterator) % 2 ≡ length l.section % 2) ×
    (sound_pairs l.least (chunks_exact_rest l.pair-iterator) ≡ sound_pairs 0 l.section)
