use Rattle.std.proofs.Common.{rules, arith, ◌≡◌, ◌<◌, ◌%◌, ◌++◌, ◌∙◌, sym, ap, length}
use Rattle.std.specs.Slice.Iter.{chunks_exact_rest, chunks_exact_size}
use Rattle.rules.specs.Settings.{sound_pairs}
use Rattle.settings.proofs.Pairs.{pairs_turn, whole_pair, short_pairs}
use Rattle.settings.proofs.sound.pairs.Goals as goal

pub loop-pair-init : goal.loop-pair-init
loop-pair-init c =
    let size : chunks_exact_size c.into_iter-pair-iterator.result ≡ 2 = search rules in
    let all : chunks_exact_rest c.into_iter-pair-iterator.result ≡ c.args.section.now = search rules in
    (omega (arith, size), tt, size, ap (λ l. length l % 2) all, ap (sound_pairs 0) all)

pub returns-then-not-sound : goal.returns-then-not-sound
returns-then-not-sound c =
    let rest = chunks_exact_rest c.next.new.self in
    let parts : chunks_exact_rest c.loop-pair.pair-iterator ≡ c.in-Some.pair.now ++ rest = search rules in
    let two : length c.in-Some.pair.now ≡ 2 = search rules in
    sym (pairs_turn c.in-Some.pair.now rest c.loop-pair.least parts two c.is_listed.ensures c.if-not-sound.true) ∙ c.loop-pair.invariant.4

pub loop-pair-preserved : goal.loop-pair-preserved
loop-pair-preserved c =
    let rest = chunks_exact_rest c.next.new.self in
    let size : chunks_exact_size c.next.new.self ≡ 2 = search rules in
    let parts : chunks_exact_rest c.loop-pair.pair-iterator ≡ c.in-Some.pair.now ++ rest = search rules in
    let two : length c.in-Some.pair.now ≡ 2 = search rules in
    let turn = pairs_turn c.in-Some.pair.now rest c.loop-pair.least parts two c.is_listed.ensures c.if-not-sound.false in
    (omega (arith, size), tt, size, whole_pair c.in-Some.pair.now rest parts two ∙ c.loop-pair.invariant.3, sym turn ∙ c.loop-pair.invariant.4)

pub returns : goal.returns
returns c =
    let rest = chunks_exact_rest c.loop-pair.pair-iterator in
    let short : length rest < 2 = search rules in
    short_pairs c.args.section.now rest c.loop-pair.least short c.loop-pair.invariant.3 ∙ c.loop-pair.invariant.4
