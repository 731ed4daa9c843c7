-- Page 01, "A key arrives", and the clear rule.
use Rattle.std.specs.Prelude.{ℕ, ◌+◌, min, Bool, true, false, not, ◌||◌, [], ◌∷◌, ◌++◌, map, ltb, eqb, length, get_or}
use Rattle.std.proofs.Math.Option.{Option, none, some}
use Rattle.rules.specs.Choice.{pick, off, bit}
use Rattle.rules.specs.Numbers.{type_ahead_size, top_dropped}
use Rattle.rules.specs.Messages.Forms as forms
use Rattle.rules.specs.Messages.Forms.{plain}
use Rattle.rules.specs.StartRead.{disables_controls}
use Rattle.rules.specs.Screen.{BEL}
use Rattle.rules.specs.State.{Characters, Reading, State}
use Rattle.rules.specs.State.{with_terminal, with_typed, with_read, with_idle, with_discarding, with_quoting, with_locked, with_dropped}
use Rattle.rules.specs.Turns.{Rule, quote, clear, discard, out_of_band, arrived, control, crowded_out, cleared}
use Rattle.rules.specs.Turns.{still, writes, sends, tells, changes, here, ◌then◌, only}
use Rattle.rules.specs.ReadData.{no_ending, by_out_of_band, completes}
use Rattle.rules.specs.Editing.{deletes, deletes_without_rubbing}
use Rattle.rules.specs.Characteristics.{out_of_band_field, immediate_clear, hello}

-- keys of rule 3
abbrev pub quote_key : ℕ
quote_key = 22

abbrev pub clear_key : ℕ
clear_key = 24

abbrev pub discard_key : ℕ
discard_key = 15

-- of an attribute; deferred clear is never carried
unfoldable pub is_immediate_clear : ℕ → Bool
is_immediate_clear attribute = eqb (out_of_band_field attribute) immediate_clear

unfoldable pub is_hello : ℕ → Bool
is_hello attribute = eqb (out_of_band_field attribute) hello

-- how the clear rule deletes a read's input: rubbed out, or without rubbing out
pub data Rubbing : Type 0 where
  rubbing_out without_rubbing : Rubbing

module _ {C : Type 0} where
  -- a stored key sets idle to 0
  unfoldable pub idle_again : Option (Reading C) → Option (Reading C)
  idle_again none = none
  idle_again (some r) = some (with_idle 0 r)

  unfoldable pub keeps : Bool → C → Rule C
  keeps quoted c =
      changes (λ s.
      with_read (idle_again s.pending_read)
      (with_typed (s.typed.type_ahead ++ record { char = c; quoted = quoted } ∷ []) s.typed.token s))

  -- one more dropped, up to where the count stops
  unfoldable pub counts_dropped : Rule C
  counts_dropped = changes (λ s. with_terminal (with_dropped (min top_dropped (s.terminal.dropped + 1)) s.terminal) s)

  unfoldable pub drops : C → Rule C
  drops c = tells (crowded_out c ∷ []) then writes (BEL ∷ []) then counts_dropped

  -- rule 4, with the limit of type-ahead
  unfoldable pub stores : ℕ → Bool → C → Rule C
  stores limit quoted c = here (λ s. pick (ltb (length s.typed.type_ahead) limit) (keeps quoted c) (drops c))

  -- rule 1
  unfoldable pub stores_quoted : C → Rule C
  stores_quoted c =
      changes (λ s. with_terminal (with_quoting false s.terminal) s) then stores type_ahead_size true c

  -- rule 3, code 22
  unfoldable pub quotes : C → Rule C
  quotes c =
      tells (control quote c ∷ []) then changes (λ s. with_terminal (with_quoting true s.terminal) s)

  -- Discard State says 1 where output is not discarded
  unfoldable pub sends_discard_state : Rule C
  sends_discard_state = here (λ s. sends (plain forms.discard_state (bit (not s.terminal.discarding) ∷ [])))

  -- the lock, which a Write sets (Write.antt)
  abbrev pub sets_locked : Bool → Rule C
  sets_locked locked = changes (λ s. with_terminal (with_locked locked s.terminal) s)

  -- a 15 that turns discard on, and immediate clear, lift it (000, 4.12.2)
  unfoldable pub unlocks : Rule C
  unlocks = sets_locked false

  unfoldable pub unlocks_if_discarding : Rule C
  unlocks_if_discarding = here (λ s. only s.terminal.discarding unlocks)

  -- rule 3, code 15
  unfoldable pub flips_discard : C → Rule C
  flips_discard c =
      tells (control discard c ∷ []) then
      changes (λ s. with_terminal (with_discarding (not s.terminal.discarding) s.terminal) s) then
      sends_discard_state then
      unlocks_if_discarding

  -- a pending read has DDD 3
  unfoldable pub are_controls_off : Option (Reading C) → Bool
  are_controls_off none = false
  are_controls_off (some r) = eqb r.terms.disables disables_controls

  unfoldable pub empties_typed : Rule C
  empties_typed =
      here (λ s.
      tells (map (λ k. cleared k.char) s.typed.type_ahead ++ map cleared s.typed.token) then
      changes (with_typed [] []))

module _ {C : Type 0} (chars : Characters C) where
  -- a pending read's input, as 21 deletes it
  unfoldable pub clears_input : Rubbing → Option (Reading C) → Rule C
  clears_input rubbing none = still
  clears_input rubbing_out (some r) = deletes chars cleared 0 r
  clears_input without_rubbing (some r) = deletes_without_rubbing cleared 0 r

  -- The clear rule: empty type-ahead, drop held and partial tokens, delete the pending read's input as 21 does.
  unfoldable pub clear_rule : Rubbing → Rule C
  clear_rule rubbing = empties_typed then here (λ s. clears_input rubbing s.pending_read)

  -- rule 3, code 24
  unfoldable pub clears_by : C → Rule C
  clears_by c = tells (control clear c ∷ []) then clear_rule rubbing_out

  -- rule 2, hello; discard control is off
  unfoldable pub sends_out_of_band : C → Rule C
  sends_out_of_band c =
      tells (control out_of_band c ∷ []) then sends (plain forms.out_of_band (off ∷ chars.code c ∷ []))

  -- rule 2, immediate clear: a pending read completes, returning no data
  unfoldable pub ends_out_of_band : Option (Reading C) → Rule C
  ends_out_of_band none = still
  ends_out_of_band (some r) = completes chars by_out_of_band no_ending r

  unfoldable pub clears_at_once : C → Rule C
  clears_at_once c =
      sends_out_of_band c then unlocks then clear_rule without_rubbing then here (λ s. ends_out_of_band s.pending_read)

  -- rule 3, then 4
  unfoldable pub controlled : C → Rule C
  controlled c =
      pick (eqb (chars.code c) quote_key) (quotes c)
      (pick (eqb (chars.code c) clear_key) (clears_by c)
      (pick (eqb (chars.code c) discard_key) (flips_discard c)
      (stores type_ahead_size false c)))

  abbrev pub attribute_of : C → State C → ℕ
  attribute_of c s = get_or s.host.attributes (chars.code c) 0

  -- the first rule that applies is the only one
  unfoldable pub by_first_rule : C → Rule C
  by_first_rule c =
      here (λ s.
      pick s.terminal.quoting (stores_quoted c)
      (pick (is_hello (attribute_of c s)) (sends_out_of_band c)
      (pick (is_immediate_clear (attribute_of c s)) (clears_at_once c)
      (pick (are_controls_off s.pending_read) (stores type_ahead_size false c)
      (controlled c)))))

  -- before Initiate only rule 4 applies
  unfoldable pub arrives : C → Rule C
  arrives c =
      here (λ s.
      tells (arrived c (is_hello (attribute_of c s) || is_immediate_clear (attribute_of c s)) ∷ []) then
      pick s.host.initiated (by_first_rule c) (stores type_ahead_size false c))
