-- Deleting from a read and showing it again, within bounds: a changed read keeps them.
use Prim.Native.Nat.{ℕ, ◌+◌, ◌-◌, ◌*◌, ◌≤◌}
use native.Mathlib.Omega.{arith}
use mathlib.Core.List.{List, []}
use mathlib.Core.Option.{some}
use lib.ListN.{length, length-take, length-drop, length-map}
use Rattle.rules.specs.Choice.{pick}
use Rattle.rules.specs.Numbers.{input_size, top_column}
use Rattle.rules.specs.Screen.{echo_all}
use Rattle.rules.specs.State.{Reading, State, codes, with_display_column}
use Rattle.rules.specs.Turns.{Fate}
use Rattle.rules.specs.Editing.{end_of, hidden_count, input_codes, shortened, deletes_without_rubbing, displayed, rub_out_bytes, deletes, displays_data, displays, redisplays}
use Rattle.rules.specs.Bounds.{BoundedReading, BoundedRead}
use Rattle.rules.proofs.Choice.{pick_case}
use Rattle.rules.proofs.Bounds.Bytes.{bytes_take}
use Rattle.rules.proofs.Bounds.Screen.{echo_all-length, rubbed_length}
use Rattle.rules.proofs.Bounds.Turns.{OfRead, Steady, Good, reread}
use Rattle.rules.proofs.Bounds.Turns.{changes_good, writes_good, tells_then, changes_then, then_good, then_quiet}
use Rattle.rules.proofs.Bounds.ReadData.{bounded_answerable}

-- no more than the input is displayed
displayed-length : (r : Reading ℕ) → length (displayed codes r) ≤ length r.input
unfolding displayed
displayed-length r =
    let n = length-drop (hidden_count r) (input_codes codes r) in
    let m = length-map r.input codes.code in
    omega arith

-- The read after deleting.
shortened_bounded : (left : ℕ) (r : Reading ℕ) → BoundedReading r → BoundedReading (shortened left r)
unfolding shortened end_of
shortened_bounded left r h =
    let n = length-take left r.input in
    record {
      terms = h.terms;
      room = omega arith;
      low_water = omega arith;
      input_bytes = bytes_take left r.input h.input_bytes;
      idle = h.idle;
      display_column = h.display_column;
    }

module _ (fate : ℕ → Fate ℕ) (left : ℕ) (r : Reading ℕ) (b : BoundedReading r) where
  pub deletes_without_rubbing_good : {R : OfRead} {bytes area : ℕ} {s : State ℕ} → Steady R s → Good BoundedRead bytes area (deletes_without_rubbing fate left r s)
  unfolding deletes_without_rubbing
  deletes_without_rubbing_good h = tells_then _ _ (changes_good _ (reread h (some (shortened left r)) (shortened_bounded left r b)))

  -- three bytes for each of the eight marks that a character may have
  rub_out_bytes-length : length (rub_out_bytes codes left r) ≤ 24 * input_size
  unfolding rub_out_bytes
  rub_out_bytes-length =
      let n = displayed-length r in
      let a = bounded_answerable r b in
      let rubbed = rubbed_length (left - hidden_count r) r.display_column (displayed codes r) in
      pick_case (λ (bs : List ℕ). length bs ≤ 24 * input_size) _ (λ y. omega arith) (λ n. omega arith)

  pub deletes_good : {R : OfRead} {area : ℕ} {s : State ℕ} → Steady R s → Good BoundedRead (24 * input_size) area (deletes codes fate left r s)
  unfolding deletes
  deletes_good h = then_quiet _ _ (writes_good _ rub_out_bytes-length h) λ s₁ h₁. deletes_without_rubbing_good h₁

-- A read is shown: its prompt, then the echo of what follows, its display beginning at a column of the screen.
echoed_length : (r : Reading ℕ) (column : ℕ) → length (pick r.terms.echoes (echo_all column (displayed codes r)) []) ≤ 8 * length r.input
echoed_length r column =
    let n = displayed-length r in
    let echoes = echo_all-length column (displayed codes r) in
    pick_case (λ (bs : List ℕ). length bs ≤ 8 * length r.input) _ (λ y. omega arith) (λ n. omega arith)

pub displays_good : {P R : OfRead} {bytes area : ℕ} {s : State ℕ} (r : Reading ℕ) →
    ((column : ℕ) → column ≤ top_column → R (some (with_display_column column r))) →
    length r.terms.prompt + 8 * length r.input ≤ bytes → Steady P s → Good R bytes area (displays codes r s)
unfolding displays displays_data
displays_good {area = area} r begun room h =
    then_good _ _ (length r.terms.prompt) (8 * length r.input) 0 area room (omega arith)
    (writes_good _ (omega arith) h) λ s₁ h₁.
    let column = s₁.terminal.screen.column in
    changes_then _ _
    (writes_good _ (echoed_length r column) (reread h₁ (some (with_display_column column r)) (begun column h₁.terminal.column)))

display_column_bounded : (r : Reading ℕ) → BoundedReading r → (column : ℕ) → column ≤ top_column → BoundedReading (with_display_column column r)
unfolding end_of
display_column_bounded r b column h =
    record { terms = b.terms; room = b.room; low_water = b.low_water; input_bytes = b.input_bytes; idle = b.idle; display_column = h }

-- CR LF, and eight marks at most for each character of prompt and input
abbrev pub redisplay_bytes : ℕ
redisplay_bytes = 2 + 8 * input_size

pub redisplays_good : {R : OfRead} {area : ℕ} {s : State ℕ} (r : Reading ℕ) → BoundedReading r → Steady R s →
    Good BoundedRead redisplay_bytes area (redisplays codes r s)
unfolding redisplays end_of
redisplays_good {area = area} r b h =
    then_good _ _ 2 (8 * input_size) 0 area (omega arith) (omega arith) (writes_good _ (omega arith) h) λ s₁ h₁.
    displays_good r (display_column_bounded r b) (omega arith) h₁
