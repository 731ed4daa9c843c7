use mathlib.Core.Path.{◌≡◌, subst⁻¹}
use mathlib.Core.Bool.{true}
use native.Mathlib.Omega.{arith}
use Rattle.rules.specs.Messages.Codec.{all_bytes}
use Rattle.rules.proofs.Bounds.Bytes.{bytes_take}
use Rattle.rules.proofs.Bounds.Bytes.{bytes_all}
use Rattle.replay.proofs.message.Goals as goal

pub returns : goal.returns
returns c =
    let s = c.args.kept.now in
    let n = c.args.count in
    subst⁻¹ (λ x. all_bytes x ≡ true) c.front.ensures
    (bytes_take n s (bytes_all s (λ i. omega (arith, c.type_inv.kept i))))
