use native.Mathlib.Omega.{arith}
use Rattle.rules.proofs.Numbers.{top_dropped_lem}
use Rattle.line.proofs.arrival.one_more.Goals as goal

pub returns : goal.returns
returns c = omega (arith, c.saturating_add.ensures, c.min.ensures, top_dropped_lem)
