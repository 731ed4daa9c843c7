use Rattle.std.proofs.Common.{rules, arith, ◌≡◌, ◌<◌, ◌++◌, ◌∙◌, ap, length}
use Rattle.std.specs.Slice.Iter.{chunks_exact_rest, chunks_exact_size}
use Rattle.rules.specs.Settings.{table_in, with_pairs}
use Rattle.settings.proofs.Pairs.{table_turn, short_table}
use Rattle.settings.proofs.table_of.Goals as goal

pub loop-pair-init : goal.loop-pair-init
unfolding table_in
loop-pair-init c =
    let size : chunks_exact_size c.into_iter-pair-iterator.result ≡ 2 = search rules in
    let all : chunks_exact_rest c.into_iter-pair-iterator.result ≡ c.args.section.now = search rules in
    (omega (arith, size), tt, size, ap (λ l. with_pairs l _) all)

pub loop-pair-preserved : goal.loop-pair-preserved
loop-pair-preserved c =
    let size : chunks_exact_size c.next.new.self ≡ 2 = search rules in
    let parts : chunks_exact_rest c.loop-pair.pair-iterator ≡ c.in-Some.pair.now ++ chunks_exact_rest c.next.new.self = search rules in
    let two : length c.in-Some.pair.now ≡ 2 = search rules in
    (omega (arith, size), tt, size, table_turn c.in-Some.pair.now (chunks_exact_rest c.next.new.self) c.loop-pair.table parts two ∙ c.loop-pair.invariant.3)

pub returns : goal.returns
returns c =
    let short : length (chunks_exact_rest c.loop-pair.pair-iterator) < 2 = search rules in
    short_table (chunks_exact_rest c.loop-pair.pair-iterator) c.loop-pair.table short ∙ c.loop-pair.invariant.3
