-- A Write, with the redisplay behind it, within bounds.
use mathlib.Core.Path.{◌≡◌}
use Prim.Native.Nat.{ℕ, ◌+◌, ◌*◌, ◌≤◌, ◌<◌}
use native.Mathlib.Omega.{arith}
use mathlib.Core.Bool.{Bool}
use mathlib.Core.List.{List, [], ◌∷◌, ◌++◌}
use mathlib.Core.Option.{Option, none, some}
use lib.ListN.{length, length-append, length-replicate}
use Rattle.rules.specs.Numbers.{message_size}
use Rattle.rules.specs.Messages.Layout.{byte_values}
use Rattle.rules.specs.Messages.Forms.{Message}
use Rattle.rules.specs.Messages.Fields.{prefix, postfix, prefix_value, postfix_value}
use Rattle.rules.specs.Screen.{LF}
use Rattle.rules.specs.State.{Reading, State, codes}
use Rattle.rules.specs.Write.{affix_bytes, own_bytes, unskipped, stops_discarding, writes_own, ends_line, writes_output}
use Rattle.rules.specs.Write.{completion, sends_completion, locks_by, redisplays_while, redisplays_if_asked, writes_out}
use Rattle.rules.specs.Bounds.{BoundedRead}
use Rattle.rules.proofs.Choice.{pick_case}
use Rattle.rules.proofs.Numbers.{writing_room, answer_room}
use Rattle.rules.proofs.Bounds.Screen.{change_byte}
use Rattle.rules.proofs.Bounds.Turns.{Steady, Good, Fine, roomier, reflagged}
use Rattle.rules.proofs.Bounds.Turns.{still_good, changes_good, writes_good, sends_good, changes_then, then_good, then_quiet, quiet_then, only_good}
use Rattle.rules.proofs.Bounds.Messages.{completion_sent}
use Rattle.rules.proofs.Bounds.Editing.{redisplay_bytes, redisplays_good}

affix_bytes-length : (code value : ℕ) → value < byte_values → length (affix_bytes code value) ≤ byte_values
unfolding affix_bytes
affix_bytes-length code value byte =
    let lines = length-replicate value LF in
    pick_case Short _ (λ y. omega arith) λ n.
    pick_case Short _ (λ y. omega arith) λ n. omega arith
  where
    Short : List ℕ → Type 0
    Short bs = length bs ≤ byte_values

unskipped-length : (skips : Bool) (bs : List ℕ) → length (unskipped skips bs) ≤ length bs
unfolding unskipped
unskipped-length skips [] = omega arith
unskipped-length skips (b ∷ bs) = pick_case (λ (left : List ℕ). length left ≤ length (b ∷ bs)) _ (λ y. omega arith) (λ n. omega arith)

-- what a Write writes itself, L's LF with it
abbrev output_bytes : ℕ
output_bytes = 2 * byte_values + message_size + 1

module _ {s : State ℕ} (h : Steady BoundedRead s) where
  writes_own_good : {area : ℕ} (bytes : List ℕ) → Good BoundedRead (length bytes) area (writes_own bytes s)
  unfolding writes_own
  writes_own_good bytes =
      then_quiet _ _ (writes_good _ (unskipped-length s.terminal.skip_linefeed bytes) h) λ s₁ h₁. changes_good _ (reflagged h₁)

  ends_line_good : {area : ℕ} (newline : ℕ) → Good BoundedRead 1 area (ends_line newline s)
  unfolding ends_line
  ends_line_good newline =
      only_good _ _ (λ y. then_quiet _ _ (writes_good _ (omega arith) h) λ s₁ h₁. changes_good _ (reflagged h₁)) (λ n. h)

  redisplays_while_good : {area : ℕ} (o : Option (Reading ℕ)) → BoundedRead o → Good BoundedRead redisplay_bytes area (redisplays_while codes o s)
  unfolding redisplays_while
  redisplays_while_good none b = still_good h
  redisplays_while_good (some r) b = redisplays_good r b h

module _ {s : State ℕ} (h : Steady BoundedRead s) (m : Message ℕ) (text : length m.text ≤ message_size) (values : (prefix_value m < byte_values) × (postfix_value m < byte_values)) where
  own_bytes-length : length (own_bytes m) ≤ 2 * byte_values + message_size
  unfolding own_bytes
  own_bytes-length =
      let front = affix_bytes (prefix m) (prefix_value m) in
      let back = affix_bytes (postfix m) (postfix_value m) in
      let before = affix_bytes-length (prefix m) (prefix_value m) values.0 in
      let behind = affix_bytes-length (postfix m) (postfix_value m) values.1 in
      let first = length-append front m.text in
      let all : length (own_bytes m) ≡ length (front ++ m.text) + length back = length-append (front ++ m.text) back in
      omega arith

  writes_output_good : {area : ℕ} {u : State ℕ} → Steady BoundedRead u → Good BoundedRead output_bytes area (writes_output m u)
  unfolding writes_output
  writes_output_good {area = area} k =
      only_good _ _
      (λ y.
      then_good _ _ (2 * byte_values + message_size) 1 0 area (omega arith) (omega arith)
      (roomier _ 0 own_bytes-length (omega arith) (writes_own_good k _)) λ s₁ h₁.
      ends_line_good h₁ _)
      (λ n. k)

  pub writes_out_fine : Fine (writes_out codes m s)
  unfolding writes_out stops_discarding sends_completion completion locks_by redisplays_if_asked
  writes_out_fine =
      let answers = answer_room in
      let room = writing_room in
      roomier (output_bytes + redisplay_bytes) 8 (omega arith) (omega arith)
      (quiet_then _ _ (only_good _ _ (λ y. changes_good _ (reflagged h)) (λ n. h)) λ s₁ h₁.
      then_good _ _ output_bytes redisplay_bytes 0 8 (omega arith) (omega arith) (writes_output_good h₁) λ s₂ h₂.
      then_good _ _ 0 redisplay_bytes 8 0 (omega arith) (omega arith)
      (only_good _ _ (λ y. sends_good _ (completion_sent _ _ _ (change_byte _ _) (change_byte _ _)) (omega arith) h₂) (λ n. h₂)) λ s₃ h₃.
      changes_then _ _
      (only_good _ _ (λ y. redisplays_while_good (reflagged h₃) s₃.pending_read h₃.pending_read) (λ n. reflagged h₃)))
