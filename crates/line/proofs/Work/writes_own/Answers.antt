use mathlib.Core.Path.{refl, sym, ap, ◌∙◌}
use native.Mathlib.Omega.{arith}
use mathlib.Core.Bool.{◌&&◌}
use Prim.Native.Nat.{◌+◌, ◌-◌, ◌≤◌}
use lib.ListN.{length}
use Rattle.rules.specs.Choice.{is_empty}
use Rattle.rules.specs.State.{with_skip_linefeed}
use Rattle.rules.specs.Write.{writes_own}
use Rattle.rules.proofs.Choice.{empty_length}
use Rattle.fields.proofs.Pieces.{all_behind}
use Rattle.line.specs.View.{terminal_of}
use Rattle.line.proofs.Turns.{then_does}
use Rattle.line.proofs.FlowChanges.{here_rule, same_writes}
use Rattle.line.proofs.ArrivalLaws.{terminal_does}
use Rattle.line.proofs.Work.writes_own.Goals as goal

pub slice_bounds-write-count : goal.slice_bounds-write-count
slice_bounds-write-count c = c.first_written-start.ensures.within

pub slice_bounds-write-start : goal.slice_bounds-write-start
slice_bounds-write-start c = c.first_written-start.ensures.within

pub slice_bounds-write-end : goal.slice_bounds-write-end
slice_bounds-write-end c = omega (arith, c.first_written-start.ensures.within)

pub returns : goal.returns
unfolding writes_own
returns c =
    let own = c.args.own.now in
    let first = c.first_written-start in
    let written = c.write-written in
    let all : length own ≤ first.result + (length own - first.result) = omega arith in
    let left = all_behind own first.result (length own - first.result) all ∙ first.ensures.left in
    let known = terminal_of written.result.flow.terminal in record {
      rule = λ l m.
          then_does (here_rule refl (same_writes left (written.ensures.rule l m)))
          (terminal_does written.result _ (λ x. with_skip_linefeed (is_empty own && x.skip_linefeed) x)
          (ap (λ none. with_skip_linefeed (none && known.skip_linefeed) known) (sym (empty_length own))) l _ m);
    }
