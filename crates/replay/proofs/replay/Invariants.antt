use Rattle.replay.specs.Played.{Played}
use Rattle.replay.proofs.replay.Given as goal

abbrev pub invariant-loop : goal.invariant-loop
invariant-loop l = Played l.line
