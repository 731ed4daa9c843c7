-- Agreement of two runs: a Write. Its redisplay shows a read as 18 does.
use Prim.Native.Nat.{ℕ}
use mathlib.Core.Path.{refl}
use mathlib.Core.Bool.{Bool}
use mathlib.Core.List.{List}
use mathlib.Core.Option.{Option, none, some}
use Rattle.rules.specs.Messages.Forms.{Message}
use Rattle.rules.specs.State.{Reading}
use Rattle.rules.specs.Write.{stops_discarding, writes_own, ends_line, writes_output, completion, sends_completion, locks_by, redisplays_while, redisplays_if_asked, writes_out}
use Rattle.rules.proofs.TwoRuns.Twins.{Twin, LevelRead, is_guarded, Agreeing}
use Rattle.rules.proofs.TwoRuns.Turns.{agrees_still, agrees_terminal, agrees_then, agrees_writes, agrees_sends, agrees_only}
use Rattle.rules.proofs.TwoRuns.Editing.{redisplays_agrees}

module _ {changed : ℕ → Bool} where
  writes_own_agrees : (bytes : List ℕ) → Agreeing {changed = changed} (λ chars. writes_own bytes)
  unfolding writes_own
  writes_own_agrees bytes = agrees_then (λ s. agrees_writes refl s) (agrees_terminal _)

  ends_line_agrees : (newline : ℕ) → Agreeing {changed = changed} (λ chars. ends_line newline)
  unfolding ends_line
  ends_line_agrees newline = agrees_only refl (agrees_then (agrees_writes refl) (agrees_terminal _))

  writes_output_agrees : (m : Message ℕ) → Agreeing {changed = changed} (λ chars. writes_output m)
  unfolding writes_output
  writes_output_agrees m s = agrees_only refl (agrees_then (writes_own_agrees _) (ends_line_agrees _)) s

  redisplays_while_agrees : (o : Option (Reading (Twin changed))) → LevelRead o → Agreeing (λ chars. redisplays_while chars o)
  unfolding redisplays_while
  redisplays_while_agrees none h = agrees_still
  redisplays_while_agrees (some r) h = redisplays_agrees r h

  redisplays_if_asked_agrees : (lock : ℕ) → Agreeing {changed = changed} (λ chars. redisplays_if_asked chars lock)
  unfolding redisplays_if_asked
  redisplays_if_asked_agrees lock = agrees_only refl (λ s l. redisplays_while_agrees s.pending_read l.pending_read s l)

  pub writes_out_agrees : (m : Message ℕ) → Agreeing {changed = changed} (λ chars. writes_out chars m)
  unfolding writes_out stops_discarding sends_completion completion locks_by is_guarded
  writes_out_agrees m before =
      agrees_then (agrees_only refl (agrees_terminal _))
      (agrees_then (writes_output_agrees m)
      (agrees_then (agrees_only refl (λ s. agrees_sends refl refl s))
      (agrees_then (agrees_terminal _)
      (redisplays_if_asked_agrees _)))) before
