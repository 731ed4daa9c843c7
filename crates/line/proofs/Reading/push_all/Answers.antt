use mathlib.Core.List.{◌++◌}
use mathlib.Core.Path.{◌≡◌, ap, ◌∙◌}
use Prim.Native.Nat.{◌+◌, ◌-◌}
use native.Mathlib.Omega.{arith}
use lib.ListN.{length, take}
use Rattle.std.proofs.lemmas.Slice.{take-put_mid, drop-put_mid}
use Rattle.line.proofs.InputAppended.{appends}
use Rattle.line.proofs.Reading.push_all.Goals as goal

pub returns : goal.returns
returns c =
    let a = c.args in
    let text = a.text.now in
    let cs = a.cs.now in
    let n = a.self.input_len in
    let stored = c.copy_from_slice.new.self in
    let same : stored ≡ cs = c.copy_from_slice.ensures.after in
    let long : length stored ≡ length cs = ap length same in
    let e : length stored ≡ n + length cs - n = omega arith in
    appends cs a.self text c.requires.counted_reading c.requires.cs_bound
    (take-put_mid n (n + length cs - n) text stored (n + length cs) (omega arith) (omega arith) ∙ ap (λ xs. take n text ++ xs) same)
    (drop-put_mid n (n + length cs - n) text stored (n + length cs) (omega arith) (omega arith) e)
