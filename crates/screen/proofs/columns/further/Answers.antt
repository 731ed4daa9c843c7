use native.Mathlib.Omega.{arith}
use Rattle.rules.proofs.Numbers.{top_column_lem}
use Rattle.screen.proofs.columns.further.Goals as goal

pub returns : goal.returns
returns c = omega (arith, top_column_lem, c.saturating_add.ensures, c.min.ensures)
