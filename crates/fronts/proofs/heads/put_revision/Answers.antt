use native.Mathlib.Omega.{arith}
use lib.ListN.{replicate}
use Rattle.rules.specs.Messages.Layout.{byte, write_groups}
use Rattle.areas.proofs.Putting.{equals, all_left, turn, none_left}
use Rattle.fronts.proofs.Groups.{first_of_run, no_run}
use mathlib.Core.Path.{ap}
use Rattle.fronts.proofs.heads.put_revision.Goals as goal

pub loop-i-init : goal.loop-i-init
loop-i-init c = all_left

pub loop-i-preserved : goal.loop-i-preserved
loop-i-preserved c =
    let s = c.span_of-t.result.now in
    turn (first_of_run s 8 c.loop-i.i c.loop-i-test.true c.byte_at.ensures (omega arith)) c.loop-i.invariant c.put_byte.ensures

pub returns : goal.returns
returns c =
    let s = c.span_of-t.result.now in
    equals (ap (write_groups (replicate 8 byte)) c.span_of-t.ensures) (none_left (no_run s 8 c.loop-i.i c.loop-i-test.false) c.loop-i.invariant)
