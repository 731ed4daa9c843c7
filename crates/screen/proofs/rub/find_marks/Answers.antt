use Rattle.std.proofs.Common.{◌≡◌, ◌<◌, ◌≤◌, ◌-◌, sym, ap, ◌∙◌, length, get_or, take, drop, length-append, length-drop, arith}
use Rattle.std.proofs.Math.Seq.{take_all, take-append_seam}
use Rattle.std.proofs.lemmas.List.{get_or-append-add}
use Rattle.rules.specs.Screen.{echo, marks_behind}
use Rattle.screen.specs.Marks.{capped, first_worked_out}
use Rattle.screen.proofs.Marks.{Walks, walks_replayed, walks_skipped, reached, column_turn, marks_turn, kept_turns, found_behind}
use Rattle.screen.proofs.rub.find_marks.Goals as goal
use Rattle.screen.proofs.rub.find_marks.Goals.{After-column_behind_text-cursor, then-holds_tab, else-holds_tab}

-- the loop's text: what is replayed, and then what is deleted
walks : (c : After-column_behind_text-cursor) →
    Walks c.args.kept c.args.text.now c.if-holds_tab.replayed.now c.split_at.result.1.now
walks c =
    let kept = c.args.kept in
    let text = c.args.text.now in
    let at = c.min.ensures in
    let parts = c.split_at.ensures in
    let tab = sym c.holds_tab.ensures in
    elim c.if-holds_tab.branch [
      | then-holds_tab w ↦
          let front = ap (λ s. s.now) w.replayed-is ∙ parts.front in
          walks_replayed kept text at parts.back (tab ∙ w.if-holds_tab.true) front
      | else-holds_tab w ↦
          let none = ap (λ s. s.now) w.replayed-is in
          walks_skipped kept text at parts.back (tab ∙ w.if-holds_tab.false) none
    ]

pub loop-n-init : goal.loop-n-init
loop-n-init c =
    let column = c.args.column in
    let first = first_worked_out c.args.kept c.args.text.now in
    let rest = drop first c.args.text.now in
    let replayed = c.if-holds_tab.replayed.now in
    let cursor = c.column_behind_text-cursor in
    let worked = cursor.ensures.worked_out in
    let w = walks c in
    let front : take cursor.result.1 rest ≡ replayed = cc (w.parts, take-append_seam replayed c.split_at.result.1.now) in (
      omega arith,
      cursor.ensures.cursor ∙ ap (reached column) (sym front),
      kept_turns (c.args.kept - first) column rest cursor.result.1 (omega arith),
    )

pub loop-n-preserved : goal.loop-n-preserved
loop-n-preserved c =
    let column = c.args.column in
    let first = first_worked_out c.args.kept c.args.text.now in
    let kept = c.args.kept - first in
    let rest = drop first c.args.text.now in
    let replayed = c.if-holds_tab.replayed.now in
    let deleted = c.split_at.result.1.now in
    let i = c.loop-n.n-index in
    let columns = c.loop-n.columns in
    let inv = c.loop-n.invariant in
    let worked = c.column_behind_text-cursor.ensures.worked_out in
    let w = walks (goal.at.loop-n-preserved c).After-column_behind_text-cursor in
    let lengths = ap length w.parts ∙ length-append replayed deleted in
    let inside : columns < length rest = omega arith in
    let behind : kept ≤ columns = omega (arith, length-drop first c.args.text.now) in
    let same : get_or rest columns 0 ≡ get_or deleted i 0 = cc (inv.0, w.parts, get_or-append-add replayed deleted i 0) in
    let more = c.width-more.ensures ∙ ap length c.of.ensures ∙ ap (λ n. length (echo c.loop-n.cursor n)) (sym same) in (
      omega arith,
      column_turn column rest columns inside inv.1 more c.column_behind-cursor.ensures,
      marks_turn column rest columns inside inv.1 more kept behind inv.2 c.saturating_add-marks.ensures,
    )

pub returns : goal.returns
returns c =
    let kept = c.args.kept in
    let column = c.args.column in
    let text = c.args.text.now in
    let first = first_worked_out kept text in
    let inv = c.loop-n.invariant in
    let worked = c.column_behind_text-cursor.ensures.worked_out in
    let w = walks (goal.at.returns c).After-column_behind_text-cursor in
    let lengths = ap length w.parts ∙ length-append c.if-holds_tab.replayed.now c.split_at.result.1.now in
    let whole = take_all c.loop-n.columns (drop first text) (omega arith) in
    record {
      marks =
          inv.2
          ∙ ap (λ ns. capped (marks_behind (kept - first) column ns)) whole
          ∙ ap capped (found_behind kept column text);
      columns = omega (arith, length-drop first text);
    }
