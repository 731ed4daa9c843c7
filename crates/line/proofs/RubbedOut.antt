-- What a deletion rubs out: the marks of what is displayed, and the columns worked out to find them.
use mathlib.Core.Path.{◌≡◌, refl, sym, ap, ◌∙◌}
use Prim.Native.Nat.{ℕ, ◌+◌, ◌-◌, ◌^◌, ◌≤◌, ◌<◌}
use native.Mathlib.Omega.{arith}
use mathlib.Core.Bool.{true, false}
use mathlib.Core.List.{List, []}
use lib.ListN.{length, take, drop, length-take, length-drop}
use lib.Seq.{drop-drop}
use Rattle.rules.specs.Choice.{bit, any_is, joined}
use Rattle.rules.specs.State.{codes}
use Rattle.rules.specs.Screen.{marks_behind, rub_out}
use Rattle.rules.specs.Editing.{hidden_count, displayed, rub_out_bytes}
use Rattle.rules.proofs.Choice.{pick_true, pick-false, any_none}
use Rattle.rules.proofs.Bounds.Messages.{bit_flag}
use Rattle.rules.proofs.Numbers.{input_size_lem}
use Rattle.screen.specs.Marks.{is_tab, first_worked_out, Finds}
use Rattle.screen.specs.declared.RubOut.{RubOut}
use Rattle.screen.proofs.Marks.{capped_whole, first_within, first_kept}
use Rattle.line.specs.declared.Terms.{Terms}
use Rattle.line.specs.declared.Reading.{Reading}
use Rattle.line.specs.declared.Line.{Line}
use Rattle.line.specs.View.{input_of, reading_of}
use Rattle.line.specs.With.{lent}
use Rattle.line.specs.Bounded.{CountedReading}
use Rattle.line.specs.ReadChanges.{ShownFrom, rubbed_out, RubsOut}
use Rattle.line.proofs.InputAppended.{input-length, displayed_is}

module _ (left : ℕ) (t : Terms) (r : Reading) (text : List ℕ) (l : Line) where
  abbrev line : Line
  line = lent t text l

  -- a read that does not echo
  pub rubs_none : t.echoes ≡ false → RubsOut left (reading_of line r) (record { marks = 0; columns = 0 })
  unfolding rub_out_bytes rub_out joined rubbed_out
  rubs_none quiet =
      let none = ap length (pick-false (drop left (input_of r.input_len text)) [] quiet) in
      record { marks = sym (pick-false _ [] quiet); once = record { least = omega arith; most = omega arith; without_tab = λ _. sym none } }

  -- one that does: what is displayed begins at `start`, and `kept` of it are left
  module _ (echoes : t.echoes ≡ true) (counted : CountedReading r text)
      {start kept : ℕ} (shown : ShownFrom r start) (k : kept ≡ left - bit r.hidden_lf) where
    abbrev input : List ℕ
    input = take r.input_len text

    abbrev part : List ℕ
    part = take (r.input_len - start) (drop start text)

    abbrev hidden : ℕ
    hidden = bit r.hidden_lf

    all_length : length input ≡ r.input_len
    unfolding input_of
    all_length = input-length r.input_len text (omega (arith, counted.within, counted.full))

    rubbed_is : (n : ℕ) → rubbed_out n (reading_of line r) ≡ drop n input
    unfolding rubbed_out input_of
    rubbed_is n = pick_true _ [] echoes

    rubbed_length : (n : ℕ) → length (rubbed_out n (reading_of line r)) ≡ r.input_len - n
    rubbed_length n = ap length (rubbed_is n) ∙ length-drop n input ∙ ap (λ all. all - n) all_length

    part_length : length part ≡ r.input_len - start
    part_length =
        omega (arith, length-take (r.input_len - start) (drop start text), length-drop start text, counted.within, counted.full)

    -- all but a hidden one is displayed
    part_is : part ≡ drop hidden input
    part_is = shown.text line ∙ displayed_is r line

    displayed-length : r.input_len - start ≡ r.input_len - hidden
    displayed-length = sym part_length ∙ ap length part_is ∙ length-drop hidden input ∙ ap (λ all. all - hidden) all_length

    -- what is deleted of it is what is rubbed out, but for a hidden LF
    gone_is : drop kept part ≡ drop (hidden + kept - left) (drop left input)
    gone_is =
        let further : hidden + kept ≡ left + (hidden + kept - left) = omega arith in
        ap (drop kept) part_is ∙ drop-drop kept hidden input ∙ ap (λ n. drop n input) further
        ∙ sym (drop-drop (hidden + kept - left) left input)

    no_tab_gone : any_is is_tab (rubbed_out left (reading_of line r)) ≡ false → first_worked_out kept part ≡ kept
    no_tab_gone none =
        let rubbed = ap (any_is is_tab) (sym (rubbed_is left)) ∙ none in
        first_kept kept part (ap (any_is is_tab) gone_is ∙ any_none is_tab (hidden + kept - left) (drop left input) rubbed)

    module _ {found : RubOut} (finds : Finds kept r.display_column part found) where
      marks-found : rub_out found.marks ≡ rub_out_bytes codes left (reading_of line r)
      unfolding rub_out_bytes hidden_count
      marks-found =
          let short : length part < 2 ^ 60 = omega (arith, part_length, counted.within, input_size_lem) in
          ap rub_out
          (finds.marks
          ∙ capped_whole kept r.display_column part short
          ∙ ap (marks_behind kept r.display_column) (shown.text line)
          ∙ ap (λ n. marks_behind n r.display_column (displayed codes (reading_of line r))) k)
          ∙ sym (pick_true _ [] echoes)

      -- `unseen` of the deleted characters are not displayed; each counts as a column more
      rubs_with : (unseen columns : ℕ) → columns ≡ found.columns + unseen → unseen ≤ start →
          r.input_len - start - kept + unseen ≡ r.input_len - left →
          RubsOut left (reading_of line r) (record { marks = found.marks; columns = columns })
      rubs_with unseen columns e few all =
          let first = first_within kept part in
          record {
            marks = marks-found;
            once = record {
              least = omega (arith, rubbed_length left, part_length, finds.columns);
              most = omega (arith, rubbed_length 0, part_length, finds.columns, shown.within);
              without_tab = λ none. omega (arith, no_tab_gone none, rubbed_length left, part_length, finds.columns);
            };
          }

      pub rubs_some : 0 < left → RubsOut left (reading_of line r) found
      rubs_some some =
          let flag = bit_flag r.hidden_lf in
          rubs_with 0 found.columns (omega arith) (omega arith) (omega (arith, displayed-length, shown.within))

      -- where no character is left, a hidden LF is deleted too
      pub rubs_all : left ≡ 0 → RubsOut left (reading_of line r) (record { marks = found.marks; columns = found.columns + start })
      rubs_all none = rubs_with start (found.columns + start) refl (omega arith) (omega (arith, shown.within))
