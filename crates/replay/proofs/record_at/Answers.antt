use mathlib.Core.Path.{◌≡◌, subst⁻¹}
use mathlib.Core.Bool.{true}
use native.Mathlib.Omega.{arith}
use Rattle.rules.specs.Messages.Codec.{all_bytes}
use Rattle.rules.proofs.Bounds.Bytes.{bytes_all}
use Rattle.writing.proofs.Fitting.{span_bytes}
use Rattle.replay.proofs.record_at.Goals as goal

pub returns : goal.returns
returns c =
    let s = c.args.kept.now in
    subst⁻¹ (λ x. all_bytes x ≡ true) c.span_of.ensures
    (span_bytes s _ (bytes_all s (λ i. omega (arith, c.type_inv.kept i))))
