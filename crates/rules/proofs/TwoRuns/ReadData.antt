-- Agreement of two runs: a pending read completes; Unread.
use Prim.Native.Nat.{ℕ}
use mathlib.Core.Path.{◌≡◌, refl, ap}
use mathlib.Core.Bool.{Bool, true, not, ◌||◌}
use mathlib.Core.Option.{Option, none, some}
use Rattle.rules.specs.Choice.{is_empty}
use Rattle.rules.specs.Messages.Forms.{Message}
use Rattle.rules.specs.State.{Reading, State}
use Rattle.rules.specs.Token.{is_whole, is_partial}
use Rattle.rules.specs.ReadData.{token_codes, more_data, read_data_of, loses_partial, sends_read_data, ends_read, completes, unreads_while, unreads}
use Rattle.rules.proofs.TwoRuns.Twins.{Twin, first_chars, second_chars, same_codes, Level}
use Rattle.rules.proofs.TwoRuns.Twins.{is_guarded, Rules, Agreeing}
use Rattle.rules.proofs.TwoRuns.Turns.{level_emptied, level_read, agrees_then, agrees_still, agrees_changes, agrees_sends, told}
use Rattle.rules.proofs.TwoRuns.Turns.{agrees_only}

module _ {changed : ℕ → Bool} where
  pub same_token : {s : State (Twin changed)} → Level s → token_codes first_chars s ≡ token_codes second_chars s
  same_token {s} l = same_codes s.typed.token l.token

  same_more : {s : State (Twin changed)} → Level s → more_data first_chars s ≡ more_data second_chars s
  unfolding more_data
  same_more {s} l = ap (λ ns. not (is_empty s.typed.type_ahead) || is_whole ns) (same_token l)

  loses_partial_agrees : Agreeing {changed = changed} loses_partial
  unfolding loses_partial
  loses_partial_agrees s l =
      agrees_only (ap is_partial (same_token l)) (told _ _ (λ x y. agrees_changes (λ u. level_emptied))) s l

  same_answer : {code code' : ℕ} → code ≡ code' → (ending : ℕ) (r : Reading (Twin changed)) {s : State (Twin changed)} →
      Level s → read_data_of first_chars code ending r s ≡ read_data_of second_chars code' ending r s
  unfolding read_data_of
  same_answer e ending r l = rw (e, same_more l)

  answer_guarded : (code ending : ℕ) (r : Reading (Twin changed)) (s : State (Twin changed)) →
      is_guarded (read_data_of first_chars code ending r s) ≡ true
  unfolding read_data_of is_guarded
  answer_guarded code ending r s = refl

  -- a read that completes is not pending: nothing is asked of its input
  pub completes_agrees : {code code' : ℕ} → code ≡ code' → (ending : ℕ) (r : Reading (Twin changed)) →
      Rules (completes first_chars code ending r) (completes second_chars code' ending r)
  unfolding completes sends_read_data ends_read
  completes_agrees e ending r =
      agrees_then loses_partial_agrees
      (agrees_then (λ s l. agrees_sends (same_answer e ending r l) (answer_guarded _ ending r s) s l)
      (agrees_changes (λ s. level_read tt)))

  unreads_while_agrees : (o : Option (Reading (Twin changed))) (m : Message ℕ) → Agreeing (λ chars. unreads_while chars o m)
  unfolding unreads_while
  unreads_while_agrees none m = agrees_still
  unreads_while_agrees (some r) m = λ s. agrees_only refl (completes_agrees refl 0 r) s

  pub unreads_agrees : (m : Message ℕ) → Agreeing {changed = changed} (λ chars. unreads chars m)
  unfolding unreads
  unreads_agrees m s = unreads_while_agrees s.pending_read m s
