use mathlib.Core.Path.{sym}
use Prim.Native.Nat.{◌+◌, ◌-◌}
use native.Mathlib.Omega.{arith}
use lib.ListN.{length-replicate}
use lib.Seq.{length-take-le}
use Rattle.rules.specs.Messages.Layout.{byte_values}
use Rattle.rules.specs.Screen.{LF}
use Rattle.rules.specs.Write.{writes_own}
use Rattle.line.proofs.FlowChanges.{for_equal}
use Rattle.line.proofs.WriteLaws.{longest_lines, affix_lines, affix_character, affix_none, none_own_does}
use Rattle.line.proofs.Work.writes_affix.Goals as goal

pub slice_bounds-writes_own-end : goal.slice_bounds-writes_own-end
slice_bounds-writes_own-end c =
    let a = c.args in
    sym (length-take-le (a.value + 1) longest_lines (omega (arith, length-replicate (byte_values - 1) LF)))

pub returns-then-code-eq-NEW_LINES : goal.returns-then-code-eq-NEW_LINES
returns-then-code-eq-NEW_LINES c =
    let a = c.args in
    let written = c.writes_own.ensures in
    let same = affix_lines a.code a.value (omega arith) c.if-code-eq-NEW_LINES.true in
    record { rule = λ l m. for_equal writes_own same (written.rule l m) }

pub returns-then-code-eq-CHARACTER : goal.returns-then-code-eq-CHARACTER
returns-then-code-eq-CHARACTER c =
    let a = c.args in
    let written = c.writes_own-then-code-eq-CHARACTER.ensures in
    let same = affix_character a.code a.value c.if-code-eq-NEW_LINES.false c.if-code-eq-CHARACTER.true in
    record { rule = λ l m. for_equal writes_own same (written.rule l m) }

pub returns : goal.returns
returns c =
    let a = c.args in
    record { rule = λ l m. for_equal writes_own (affix_none a.code a.value c.if-code-eq-NEW_LINES.false c.if-code-eq-CHARACTER.false) (none_own_does _ _ m) }
