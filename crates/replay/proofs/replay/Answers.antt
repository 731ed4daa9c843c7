use Prim.Native.Nat.{◌<◌}
use mathlib.Core.Path.{subst⁻¹}
use native.Mathlib.Omega.{arith}
use Rattle.replay.specs.Played.{Played}
use Rattle.replay.proofs.Playing.{played_fresh, played_bounded, played_key, played_step, played_tick, played_host}
use Rattle.replay.proofs.replay.Goals as goal
use Rattle.replay.proofs.replay.Goals.{After-put, in-Call+in-Key, in-Call+in-Step, in-Call+in-Tick, in-Call+in-Host, in-Load, in-Fresh, in-Dropped, in-Lengths, in-Tell}

-- The line behind an order: what a call handed back, a fresh one, or the one before.
played_on : (c : After-put) → Played c.match-order.line
played_on c =
    let before = c.loop.invariant in
    elim c.match-order.branch [
      | in-Call+in-Key w ↦
          let byte : w.in-Key.code < 256 = omega arith in
          subst⁻¹ Played w.line-is (played_key before w.in-Key.code byte w.key-a.ensures)
      | in-Call+in-Step w ↦ subst⁻¹ Played w.line-is (played_step before w.step-a.ensures)
      | in-Call+in-Tick w ↦ subst⁻¹ Played w.line-is (played_tick before w.tick-a.ensures)
      | in-Call+in-Host w ↦ subst⁻¹ Played w.line-is (played_host before _ w.message.ensures w.host-a.ensures)
      | in-Load w ↦ subst⁻¹ Played w.line-is (w.load-a.ensures before)
      | in-Fresh w ↦ subst⁻¹ Played w.line-is (played_fresh w.fresh-line-in-Fresh.ensures)
      | in-Dropped w ↦ subst⁻¹ Played w.line-is before
      | in-Lengths w ↦ subst⁻¹ Played w.line-is before
      | in-Tell w ↦ subst⁻¹ Played w.line-is before
    ]

pub loop-init : goal.loop-init
loop-init c = played_fresh c.fresh-line.ensures

pub key-a-requires : goal.key-a-requires
key-a-requires c = played_bounded c.loop.invariant

pub step-a-requires : goal.step-a-requires
step-a-requires c = played_bounded c.loop.invariant

pub tick-a-requires : goal.tick-a-requires
tick-a-requires c = played_bounded c.loop.invariant

pub host-a-requires : goal.host-a-requires
host-a-requires c = played_bounded c.loop.invariant

pub load-a-requires : goal.load-a-requires
load-a-requires c = played_bounded c.loop.invariant

pub loop-preserved : goal.loop-preserved
loop-preserved c = played_on (goal.at.loop-preserved c).After-put

pub returns-after-loop : goal.returns-after-loop
returns-after-loop c = c.loop.invariant

pub returns-in_default : goal.returns-in_default
returns-in_default c = c.loop.invariant

pub returns-then-is_err : goal.returns-then-is_err
returns-then-is_err c = played_on (goal.at.returns-then-is_err c).After-put
