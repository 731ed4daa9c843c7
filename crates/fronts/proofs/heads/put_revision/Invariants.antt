use Rattle.std.proofs.Common.{◌-◌, drop, replicate}
use Rattle.rules.specs.Messages.Layout.{byte, write_groups}
use Rattle.areas.proofs.Putting.{Left}
use Rattle.fronts.proofs.heads.put_revision.Given as goal

abbrev pub invariant-loop-i : goal.invariant-loop-i
invariant-loop-i l =
    Left (write_groups (replicate 8 byte) l.t) l.initial.w (write_groups (replicate (8 - l.i) byte) (drop l.i l.t)) l.w
