use mathlib.Core.List.{◌++◌, append_assoc}
use mathlib.Core.Path.{sym, ap₂, ◌∙◌}
use Prim.Native.Nat.{◌+◌, ◌≤◌}
use native.Mathlib.Omega.{arith}
use lib.ListN.{length, take}
use borrow.Rule.Slice.PartMut.{Post-is}
use Rattle.std.proofs.lemmas.List.Edits.{sets-eq}
use Rattle.rules.proofs.Numbers.{input_size_lem}
use Rattle.line.proofs.start_read.put_text.Goals as goal

pub overflow_add-at : goal.overflow_add-at
overflow_add-at c = omega (arith, input_size_lem, c.requires.piece_bound)

pub slice_bounds-copy_from_slice-end : goal.slice_bounds-copy_from_slice-end
slice_bounds-copy_from_slice-end c = omega (arith, input_size_lem, c.requires.piece_bound)

pub returns : goal.returns
returns c =
    let a = c.args in
    let text = a.text.now in
    let piece = a.piece.now in
    let end : a.at ≤ a.at + length piece = omega arith in
    let fits : a.at + length piece ≤ length text = omega (arith, input_size_lem, c.requires.piece_bound) in
    ap₂ (λ xs rest. take a.at text ++ (xs ++ rest)) c.copy_from_slice.ensures.after (Post-is a.at (a.at + length piece) text end)
    ∙ sym (sets-eq piece text a.at fits ∙ append_assoc (take a.at text) piece _)
