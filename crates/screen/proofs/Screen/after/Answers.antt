use lib.Dec.{eqb}
use Rattle.rules.specs.Screen.{CR, shown}
use Rattle.screen.proofs.Screen.after.Goals as goal

pub returns : goal.returns
unfolding shown
returns c =
    λ i.
    record {
      column = c.column_after.ensures i;
      line = c.line_after.ensures i;
      after_cr = eqb c.args.b CR;
    }
