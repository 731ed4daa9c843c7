use Rattle.line.proofs.ArrivalLaws.{dropped_key}
use mathlib.Core.Path.{refl}
use Prim.Native.Nat.{◌≤◌}
use Rattle.line.specs.View.{key_of}
use native.Mathlib.Omega.{arith}
use Rattle.rules.specs.Numbers.{type_ahead_size}
use Rattle.rules.specs.Arrival.{stores}
use Rattle.line.proofs.FlowChanges.{here_first, here_second}
use Rattle.rules.proofs.Numbers.{type_ahead_size_lem}
use Rattle.line.proofs.KeyArrays.{has_room, no_room}
use Rattle.line.proofs.Work.stores.Goals as goal

pub keeps-requires : goal.keeps-requires
keeps-requires c = record { keys_len_bound = omega (arith, c.if-typed-lt-TYPE_AHEAD_SIZE.true, type_ahead_size_lem) }

pub returns-then-typed-lt-TYPE_AHEAD_SIZE : goal.returns-then-typed-lt-TYPE_AHEAD_SIZE
unfolding stores
returns-then-typed-lt-TYPE_AHEAD_SIZE c =
    let waiting = c.args.self.flow.typed.keys_len in
    let kept = c.keeps.ensures in record {
      rule = λ k l size m.
          here_first _ refl (has_room waiting type_ahead_size l.keys (omega (arith, c.if-typed-lt-TYPE_AHEAD_SIZE.true, type_ahead_size_lem))) (kept.rule k l size _ m);
    }

pub returns : goal.returns
unfolding stores
returns c =
    let self = c.args.self in
    let waiting = self.flow.typed.keys_len in
    let full : type_ahead_size ≤ waiting = omega (arith, c.if-typed-lt-TYPE_AHEAD_SIZE.false, type_ahead_size_lem) in
    let dropped = c.drops in record {
      rule = λ k l size m.
          here_second _ refl (no_room waiting type_ahead_size l.keys full)
          (dropped_key self.flow dropped.result k l (omega arith) (dropped.ensures.rule (key_of k).char l m));
    }
