use mathlib.Core.Path.{◌≡◌, ap, ◌∙◌}
use Prim.Native.Nat.{◌-◌}
use native.Mathlib.Omega.{arith}
use Rattle.line.specs.KeyArray.{shift}
use Rattle.line.proofs.KeyArrays.{shift_moves}
use Rattle.line.proofs.keys.drop_first.Goals as goal

pub returns-then-waiting-gt1 : goal.returns-then-waiting-gt1
returns-then-waiting-gt1 c =
    c.copy_within.ensures.after ∙ shift_moves c.args.waiting c.args.keys.now (omega arith) (omega arith)

pub returns-else-waiting-gt1 : goal.returns-else-waiting-gt1
unfolding shift
returns-else-waiting-gt1 c = let e : 0 ≡ c.args.waiting - 1 = omega arith in ap (λ n. shift n c.args.keys.now) e
