-- Page 01, "Read Data and counts": a read completes; Unread and Check Input.
use Rattle.std.specs.Prelude.{ℕ, ◌+◌, ◌-◌, Bool, not, ◌&&◌, ◌||◌, List, [], ◌∷◌, map, eqb, length}
use Rattle.std.proofs.Math.Option.{Option, none, some}
use Rattle.rules.specs.Choice.{bit, is_empty}
use Rattle.rules.specs.Messages.Forms.{Message, plain, read_data, input_count}
use Rattle.rules.specs.Messages.Fields.{unread_condition, unread_always}
use Rattle.rules.specs.Screen.{change}
use Rattle.rules.specs.State.{Characters, State, Reading, Typed, with_read, with_token}
use Rattle.rules.specs.Token.{is_whole, is_partial}
use Rattle.rules.specs.Turns.{Rule, lost, still, sends, tells, changes, here, ◌then◌, only}

-- completion codes (000, 4.16.4)
abbrev pub by_terminator : ℕ
by_terminator = 0

abbrev pub by_valid_token : ℕ
by_valid_token = 1

abbrev pub by_invalid_token : ℕ
by_invalid_token = 2

abbrev pub by_out_of_band : ℕ
by_out_of_band = 3

abbrev pub by_full_buffer : ℕ
by_full_buffer = 4

abbrev pub by_timeout : ℕ
by_timeout = 5

abbrev pub by_unread : ℕ
by_unread = 6

abbrev pub by_underflow : ℕ
by_underflow = 7

abbrev pub by_absentee : ℕ
by_absentee = 8

-- how many characters at the end of a read are a terminator, token or underflow code
abbrev pub no_ending : ℕ
no_ending = 0

abbrev pub one_ending : ℕ
one_ending = 1

module _ {C : Type 0} where
  -- type-ahead plus token bytes
  unfoldable pub waiting_count : Typed C → ℕ
  waiting_count t = length t.type_ahead + length t.token

  unfoldable pub ends_read : Rule C
  ends_read = changes (with_read none)

  unfoldable pub checks_input : Rule C
  checks_input = here (λ s. sends (plain input_count (waiting_count s.typed ∷ [])))

module _ {C : Type 0} (chars : Characters C) where
  abbrev pub token_codes : State C → List ℕ
  token_codes s = map chars.code s.typed.token

  -- type-ahead or a held token remains
  unfoldable pub more_data : State C → Bool
  more_data s = not (is_empty s.typed.type_ahead) || is_whole (token_codes s)

  -- the Read Data of a read: its code, and how many characters end it
  unfoldable pub read_data_of : ℕ → ℕ → Reading C → State C → Message C
  read_data_of code ending r s =
      record {
        kind = read_data;
        numbers =
            code ∷
            bit (more_data s) ∷
            r.low_water ∷
            change s.terminal.screen.line r.terms.line ∷
            change s.terminal.screen.column r.terms.column ∷
            (length r.input - ending) ∷
            [];
        set = [];
        parameters = [];
        text = r.input;
      }

  -- a completion drops a partial token
  unfoldable pub loses_partial : Rule C
  loses_partial =
      here (λ s.
      only (is_partial (token_codes s)) (tells (map lost s.typed.token) then changes (with_token [])))

  unfoldable pub sends_read_data : ℕ → ℕ → Reading C → Rule C
  sends_read_data code ending r = here (λ s. sends (read_data_of code ending r s))

  unfoldable pub completes : ℕ → ℕ → Reading C → Rule C
  completes code ending r = loses_partial then sends_read_data code ending r then ends_read

  -- Unread (always), and Unread (empty), which looks at type-ahead, tokens and input
  unfoldable pub unreads_while : Option (Reading C) → Message ℕ → Rule C
  unreads_while none m = still
  unreads_while (some r) m =
      here (λ s.
      only
      (eqb (unread_condition m) unread_always || is_empty s.typed.type_ahead && is_empty s.typed.token && is_empty r.input)
      (completes by_unread no_ending r))

  unfoldable pub unreads : Message ℕ → Rule C
  unreads m = here (λ s. unreads_while s.pending_read m)
