use Rattle.std.proofs.Common.{◌≡◌}
use Rattle.std.specs.Slice.Iter.{chunks_exact_rest, chunks_exact_size}
use Rattle.rules.specs.Settings.{table_in, with_pairs}
use Rattle.settings.proofs.table_of.Given as goal

abbrev pub invariant-loop-pair : goal.invariant-loop-pair
invariant-loop-pair l =
    (goal.iterator-loop-pair).can_next l.pair-iterator ×
    (goal.iterator-loop-pair).is_finite l.pair-iterator ×
    (chunks_exact_size l.pair-iterator ≡ 2) ×
    (with_pairs (chunks_exact_rest l.pair-iterator) l.table ≡ table_in l.section)
