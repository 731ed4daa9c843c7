-- Write (000, 4.11, 4.12.2 and 4.16.8; request M-103): what it puts out, output discard, the skip-linefeed mark, the lock and the redisplay.
use Rattle.std.specs.Prelude.{ℕ, Bool, true, false, not, ◌&&◌, ◌||◌, List, [], ◌∷◌, ◌++◌, eqb, replicate}
use Rattle.std.proofs.Math.Option.{Option, none, some}
use Rattle.rules.specs.Choice.{pick, is_on, bit, is_empty}
use Rattle.rules.specs.Messages.Forms as forms
use Rattle.rules.specs.Messages.Forms.{Message, plain}
use Rattle.rules.specs.Messages.Fields.{lock, newline, keeps_output, prefix, postfix, prefix_value, postfix_value, wants_completion}
use Rattle.rules.specs.Messages.Fields.{leaves_locked, redisplay_after, new_lines, character}
use Rattle.rules.specs.Screen.{CR, LF, change}
use Rattle.rules.specs.State.{Characters, Reading, State, with_terminal, with_discarding, with_skip_linefeed}
use Rattle.rules.specs.Turns.{Rule, still, writes, sends, changes, here, ◌then◌, only}
use Rattle.rules.specs.Editing.{redisplays}
use Rattle.rules.specs.Arrival.{sets_locked}

-- what a prefix or a postfix is, by its code and value: CR and so many LF, or the value as a character, raw
unfoldable pub affix_bytes : ℕ → ℕ → List ℕ
affix_bytes code value = pick (eqb code new_lines) (CR ∷ replicate value LF) (pick (eqb code character) (value ∷ []) [])

-- a Write's own bytes: prefix, DATA and postfix, in their order
unfoldable pub own_bytes : Message ℕ → List ℕ
own_bytes m = affix_bytes (prefix m) (prefix_value m) ++ m.text ++ affix_bytes (postfix m) (postfix_value m)

-- whether there is a byte to put out: an own one, or L's LF
unfoldable pub has_output : Message ℕ → Bool
has_output m = not (is_empty (own_bytes m)) || is_on (newline m)

-- what is left of the bytes: where the skip-linefeed mark is set, a first one that is LF is left out
unfoldable pub unskipped : Bool → List ℕ → List ℕ
unskipped skips [] = []
unskipped skips (b ∷ bs) = pick (skips && eqb b LF) bs (b ∷ bs)

module _ {C : Type 0} where
  -- don't-discard turns output discard off, without a message
  unfoldable pub stops_discarding : ℕ → Rule C
  stops_discarding keeps = only (is_on keeps) (changes (λ s. with_terminal (with_discarding false s.terminal) s))

  abbrev pub sets_skip_linefeed : (State C → Bool) → Rule C
  sets_skip_linefeed skips = changes (λ s. with_terminal (with_skip_linefeed (skips s) s.terminal) s)

  -- own bytes; where there are any, the mark falls
  unfoldable pub writes_own : List ℕ → Rule C
  writes_own bytes =
      here (λ s. writes (unskipped s.terminal.skip_linefeed bytes)) then
      sets_skip_linefeed (λ s. is_empty bytes && s.terminal.skip_linefeed)

  -- L: an LF at the very end, which is never left out and sets the mark
  unfoldable pub ends_line : ℕ → Rule C
  ends_line newline = only (is_on newline) (writes (LF ∷ []) then sets_skip_linefeed (λ s. true))

  -- all of it, unless output discard is on: then the mark stays, too
  unfoldable pub writes_output : Message ℕ → Rule C
  writes_output m = here (λ s. only (not s.terminal.discarding) (writes_own (own_bytes m) then ends_line (newline m)))

  -- positions are changes since the state before; output is lost when there was some and it was discarded
  unfoldable pub completion : Message ℕ → State C → State C → Message C
  completion m before now =
      plain forms.write_completion
      (bit (now.terminal.discarding && has_output m) ∷
      change now.terminal.screen.column before.terminal.screen.column ∷
      change now.terminal.screen.line before.terminal.screen.line ∷
      [])

  -- Write Completion, when asked for
  unfoldable pub sends_completion : ℕ → Message ℕ → State C → Rule C
  sends_completion wants m before = only (is_on wants) (here (λ s. sends (completion m before s)))

  -- the lock, by UU
  unfoldable pub locks_by : ℕ → Rule C
  locks_by lock = sets_locked (eqb lock leaves_locked)

module _ {C : Type 0} (chars : Characters C) where
  -- a pending read is redisplayed as 18 does, under any DDD
  unfoldable pub redisplays_while : Option (Reading C) → Rule C
  redisplays_while none = still
  redisplays_while (some r) = redisplays chars r

  -- UU 3
  unfoldable pub redisplays_if_asked : ℕ → Rule C
  redisplays_if_asked lock = only (eqb lock redisplay_after) (here (λ s. redisplays_while s.pending_read))

  -- A Write, in order. Echo and prompts are never discarded: no other rule that writes looks at output discard. The flags for first and last part
  -- change nothing: none looks at them.
  unfoldable pub writes_out : Message ℕ → Rule C
  writes_out m =
      here (λ before.
      stops_discarding (keeps_output m) then
      writes_output m then
      sends_completion (wants_completion m) m before then
      locks_by (lock m) then
      redisplays_if_asked (lock m))
