-- The calls with their refusals, and a list of calls run from a fresh line.
use Rattle.std.specs.Prelude.{ℕ, Bool, true, false, not, ◌&&◌, ◌||◌, List, [], ◌∷◌, ◌++◌, map, leb, eqb, length, drop}
use Rattle.std.proofs.Math.Option.{Option, none, some}
use Rattle.rules.specs.Choice.{pick, Row, ◌when◌, first_row_answer, is_off, all_are, joined}
use Rattle.rules.specs.Numbers.{terminal_area, message_area, accepted, small_area, wrong_length, wrong_type, wrong_time, unsound, not_carried, unsound_record}
use Rattle.rules.specs.Messages.Layout.{framed}
use Rattle.rules.specs.Messages.Parameters.{selector}
use Rattle.rules.specs.Messages.Forms as forms
use Rattle.rules.specs.Messages.Forms.{Message, type_in, form_of}
use Rattle.rules.specs.Messages.Codec.{Outcome, refused, sound, sound_length, defined_kind, read, bytes_as}
use Rattle.rules.specs.Messages.Fields.{transparent}
use Rattle.rules.specs.StartRead.{start_of_display, continues, vertical, sound_start_read}
use Rattle.rules.specs.State.{Characters, Reading, State, fresh}
use Rattle.rules.specs.Turns.{Turn, Rule, still, ◌then◌}
use Rattle.rules.specs.Arrival.{arrives}
use Rattle.rules.specs.Steps.{steps, ticks}
use Rattle.rules.specs.Characteristics.{is_carried, carries_settings, report}
use Rattle.rules.specs.Host.{obeys}
use Rattle.rules.specs.Settings.{are_sound, loads}

-- an incoming event: a keystroke, a bare step, a tick, a host message's bytes, or the line's own settings record and the site's
pub data Event (C : Type 0) : Type 0 where
  key : C → Event C
  step tick : Event C
  message : List ℕ → Event C
  load : List ℕ → List ℕ → Event C

-- a call, with the lengths of the two lent areas; a load is lent none
pub record Call (C : Type 0) : Type 0 where
  pub terminal : ℕ
  pub messages : ℕ
  pub event : Event C

-- a call's answer: its number, and what it did
pub record Answer (C : Type 0) : Type 0 where
  pub number : ℕ
  pub turn : Turn C

-- an area after a call that wrote these bytes to its front
unfoldable pub area_after : List ℕ → List ℕ → List ℕ
area_after bytes area = bytes ++ drop (length bytes) area

-- a message's characters changed
unfoldable pub map_text : {C D : Type 0} → (C → D) → Message C → Message D
map_text f m =
    record
    { kind = m.kind; numbers = m.numbers; set = m.set; parameters = m.parameters; text = map f m.text }

unfoldable pub sent_bytes : Message ℕ → List ℕ
sent_bytes m = bytes_as (form_of m.kind) m

-- 1: the lengths of terminal area and message area
abbrev pub are_roomy : ℕ → ℕ → Bool
are_roomy terminal messages = leb terminal_area terminal && leb message_area messages

-- 3: a type that is not 1 to 14, or that only servers send, is not a host's
unfoldable pub is_servers : ℕ → Bool
is_servers kind =
    eqb kind forms.read_data || eqb kind forms.out_of_band ||
    eqb kind forms.write_completion || eqb kind forms.discard_state ||
    eqb kind forms.input_count || eqb kind forms.input_state

unfoldable pub is_hosts : ℕ → Bool
is_hosts kind = defined_kind kind && not (is_servers kind)

-- 6, by type
unfoldable pub carries_start_read : Message ℕ → Bool
carries_start_read m = eqb (start_of_display m) 0 && is_off (continues m) && is_off (vertical m)

unfoldable pub carries_write : Message ℕ → Bool
carries_write m = is_off (transparent m)

module _ {C : Type 0} where
  unfoldable pub is_pending : Option (Reading C) → Bool
  is_pending none = false
  is_pending (some r) = true

  -- 4: first accepted message not Initiate; Initiate again; Start Read with a read pending
  unfoldable pub is_timely : ℕ → State C → Bool
  is_timely kind s =
      pick s.host.initiated
      (not (eqb kind forms.initiate) && not (eqb kind forms.start_read && is_pending s.pending_read))
      (eqb kind forms.initiate)

  -- 6: a Read Characteristics whose answer and its length pass the message area
  unfoldable pub carries_questions : State C → Message ℕ → Bool
  carries_questions s m =
      all_are (λ p. is_carried (selector p)) m.parameters &&
      leb (length (framed (sent_bytes (report s.host m)))) message_area

  -- the Start Read test of a line has the line's largest read
  unfoldable pub passes_test : State C → Message ℕ → Bool
  passes_test s m = pick (eqb m.kind forms.start_read) (sound_start_read s.host.largest_read m) true

  -- 5: behind rows 2 and 3 reading refuses for nothing else; or the line's test is not passed
  unfoldable pub is_unsound : State C → Outcome (Message ℕ) → Bool
  is_unsound s (refused n) = true
  is_unsound s (sound m) = not (passes_test s m)

  unfoldable pub is_carried_by : State C → Message ℕ → Bool
  is_carried_by s m =
      pick (eqb m.kind forms.start_read) (carries_start_read m)
      (pick (eqb m.kind forms.write) (carries_write m)
      (pick (eqb m.kind forms.characteristics) (carries_settings s.host m)
      (pick (eqb m.kind forms.read_characteristics) (carries_questions s m)
      true)))

  -- of what was read; where reading refused, row 5 comes first
  unfoldable pub carries : State C → Outcome (Message ℕ) → Bool
  carries s (refused n) = true
  carries s (sound m) = is_carried_by s m

  -- The table of refusals for a host message's bytes, behind row 1.
  unfoldable pub refusals : State C → List ℕ → List Row
  refusals s bytes =
      wrong_length when not (sound_length (length bytes)) ∷
      wrong_type when not (is_hosts (type_in bytes)) ∷
      wrong_time when not (is_timely (type_in bytes) s) ∷
      unsound when is_unsound s (read bytes) ∷
      not_carried when not (carries s (read bytes)) ∷
      []

  -- the message in a host message's bytes, unless a row applies
  unfoldable pub received : State C → List ℕ → Outcome (Message ℕ)
  received s bytes = first_row_answer refused (read bytes) (refusals s bytes)

  -- a refusal writes nothing and leaves the line as it was
  unfoldable pub refuses : ℕ → State C → Answer C
  refuses n s = record { number = n; turn = still s }

  unfoldable pub does : Rule C → State C → Answer C
  does f s = record { number = accepted; turn = f s }

  -- 7: either record is unsound
  unfoldable pub answers_load : List ℕ → List ℕ → State C → Answer C
  answers_load own site = first_row_answer refuses (does (loads own site)) (unsound_record when not (are_sound own site) ∷ [])

  -- 1 is asked of every event that is lent areas
  abbrev pub is_lent : Event C → Bool
  is_lent (key c) = true
  is_lent step = true
  is_lent tick = true
  is_lent (message bytes) = true
  is_lent (load own site) = false

  abbrev pub is_cramped : Call C → Bool
  is_cramped c = is_lent c.event && not (are_roomy c.terminal c.messages)

module _ {C : Type 0} (chars : Characters C) where
  unfoldable pub answers_message : Outcome (Message ℕ) → State C → Answer C
  answers_message (refused n) = refuses n
  answers_message (sound m) = does (obeys chars m)

  -- M-104: a keystroke arrives, and one step follows. Whether the line is locked and whether a read is pending, the step asks of the
  -- line as arrival left it.
  unfoldable pub keystroke : C → Rule C
  keystroke c = arrives chars c then steps chars

  unfoldable pub answers : Event C → State C → Answer C
  answers (key c) s = does (keystroke c) s
  answers step s = does (steps chars) s
  answers tick s = does (ticks chars) s
  answers (message bytes) s = answers_message (received s bytes) s
  answers (load own site) s = answers_load own site s

  -- row 1 comes first
  unfoldable pub answer : Call C → State C → Answer C
  answer c s = first_row_answer refuses (answers c.event) (small_area when is_cramped c ∷ []) s

  -- the message area's bytes: each message behind its length, in the order sent
  unfoldable pub message_bytes : Turn C → List ℕ
  message_bytes t = joined (map (λ m. framed (sent_bytes (map_text chars.code m))) t.messages)

  -- each call gets the line that the last one handed back
  unfoldable pub run_from : State C → List (Call C) → List (Answer C)
  run_from s [] = []
  run_from s (c ∷ cs) = let a = answer c s in a ∷ run_from a.turn.state cs

  unfoldable pub run : List (Call C) → List (Answer C)
  run cs = run_from fresh cs
