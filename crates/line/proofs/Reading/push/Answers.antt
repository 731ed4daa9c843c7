use mathlib.Core.List.{[], ◌∷◌}
use Prim.Native.Nat.{◌+◌}
use native.Mathlib.Omega.{arith}
use Rattle.std.proofs.lemmas.List.{take_more_set, drop-set-lt}
use Rattle.line.proofs.InputAppended.{appends}
use Rattle.line.proofs.Reading.push.Goals as goal

pub returns : goal.returns
returns c =
    let a = c.args in
    let n = a.self.input_len in
    appends (a.c ∷ []) a.self a.text.now c.requires.counted_reading (omega arith) (take_more_set a.text.now n a.c (omega arith))
    (drop-set-lt (n + 1) a.text.now n a.c (omega arith))
