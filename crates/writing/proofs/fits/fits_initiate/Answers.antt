use native.Mathlib.Omega.{arith}
use mathlib.Core.Path.{sym}
use Rattle.message.specs.Found.{held_in}
use Rattle.writing.specs.Spans.{spans_of}
use Rattle.writing.proofs.Lengths.{spans_length}
use Rattle.rules.proofs.Bounds.Bytes.{bytes_all}
use Rattle.writing.proofs.WholeLists.{initiate_fits}
use Rattle.writing.proofs.fits.fits_initiate.Goals as goal

pub returns : goal.returns
unfolding held_in spans_of
returns c =
    let a = c.args in
    let s = a.s.now in
    let f = a.f in
    record {
      same =
          λ e.
          initiate_fits s f.parameters (bytes_all s (λ i. omega (arith, c.type_inv.s i))) f.revision
          (omega arith) (omega arith) (omega arith) (sym (spans_length s _ e).3) c.fits_list-whole.ensures;
    }
