-- Page 01, "One step": a step takes one key, edits, fills a token or the buffer; and the tick.
use Rattle.std.specs.Prelude.{ℕ, ◌+◌, ◌-◌, Bool, not, ◌&&◌, ◌||◌, List, [], ◌∷◌, ◌++◌, map, leb, ltb, eqb, length}
use Rattle.std.proofs.Math.Option.{Option, none, some}
use Rattle.rules.specs.Choice.{pick, is_empty}
use Rattle.rules.specs.Screen.{BEL, DEL, echo, echo_terminator}
use Rattle.rules.specs.State.{Characters, Key, Reading, State, with_typed, with_token, with_read, with_input, with_idle}
use Rattle.rules.specs.StartRead.{underflow_rings, underflow_completes, disables_nothing, disables_lines, in_set}
use Rattle.rules.specs.Token.{ESC, CSI, standing, is_valid, is_whole, is_partial}
use Rattle.rules.specs.Turns.{Rule, edit, control, taken, tokened, edited, still, writes, tells, changes, here, ◌then◌, only}
use Rattle.rules.specs.ReadData.{no_ending, one_ending, by_terminator, by_valid_token, by_invalid_token, by_full_buffer, by_timeout, by_underflow, by_absentee}
use Rattle.rules.specs.ReadData.{token_codes, completes}
use Rattle.rules.specs.Editing.{delete_word_key, delete_line_key, redisplay_key, end_of, input_codes, left_by_delete_word, deletes, redisplays}

module _ {C : Type 0} where
  abbrev pub column_now : State C → ℕ
  column_now s = s.terminal.screen.column

  unfoldable pub appended : List C → Reading C → Reading C
  appended cs r = with_input (r.input ++ cs) r

  -- DDD 1: 21 and 18 do not edit; 2 and 3: none do
  unfoldable pub is_edit_key : ℕ → Reading C → Bool
  is_edit_key code r =
      (eqb code DEL || eqb code delete_word_key) && leb r.terms.disables disables_lines ||
      (eqb code delete_line_key || eqb code redisplay_key) && eqb r.terms.disables disables_nothing

  unfoldable pub is_token_start : ℕ → Reading C → Bool
  is_token_start code r = (eqb code ESC || eqb code CSI) && r.terms.recognises

  -- a key is taken from type-ahead, which leaves these, and idle is 0
  abbrev pub key_taken : List (Key C) → Reading C → State C → State C
  key_taken left r s = with_read (some (with_idle 0 r)) (with_typed left s.typed.token s)

  unfoldable pub sets_idle : ℕ → Reading C → Rule C
  sets_idle idle r = changes (with_read (some (with_idle idle r)))

module _ {C : Type 0} (chars : Characters C) where
  unfoldable pub token_code : List C → ℕ
  token_code cs = pick (is_valid (standing (map chars.code cs))) by_valid_token by_invalid_token

  -- a token that fits the buffer is appended and completes the read
  unfoldable pub ends_by_token : Reading C → Rule C
  ends_by_token r =
      here (λ s.
      changes (with_token []) then
      completes chars (token_code s.typed.token) (length s.typed.token) (appended s.typed.token r))

  -- a whole token: where it does not fit the read completes absentee, and it stays held. Tokens never echo: neither this rule nor the next
  -- writes.
  unfoldable pub takes_token : Reading C → Rule C
  takes_token r =
      here (λ s.
      pick (leb (end_of r + length s.typed.token) r.terms.max_length) (ends_by_token r) (completes chars by_absentee no_ending r))

  -- rules 1 and 3: a key goes into a token, and a finished one is treated as held, in the same step
  unfoldable pub adds_to_token : C → Reading C → Rule C
  adds_to_token c r =
      tells (tokened c ∷ []) then
      changes (λ s. with_token (s.typed.token ++ c ∷ []) s) then
      here (λ s. only (is_whole (token_codes chars s)) (takes_token r))

  -- a character's echo, or a terminator's, where it is wanted
  unfoldable pub echoes_if : Bool → C → Rule C
  echoes_if wanted c = here (λ s. writes (pick wanted (echo (column_now s) (chars.code c)) []))

  unfoldable pub echoes_terminator_if : Bool → C → Rule C
  echoes_terminator_if wanted c = here (λ s. writes (pick wanted (echo_terminator (column_now s) (chars.code c)) []))

  -- rule 7, data: append, echo; complete, buffer full, at MAX-LENGTH
  unfoldable pub takes_data : C → Reading C → Rule C
  takes_data c r =
      changes (with_read (some (appended (c ∷ []) r))) then
      echoes_if r.terms.echoes c then
      only (eqb (end_of r + 1) r.terms.max_length) (completes chars by_full_buffer no_ending (appended (c ∷ []) r))

  -- rule 5, a terminator: it echoes only with T and in a read that echoes
  unfoldable pub terminates : C → Reading C → Rule C
  terminates c r =
      echoes_terminator_if (r.terms.terminator_echo && r.terms.echoes) c then
      completes chars by_terminator one_ending (appended (c ∷ []) r)

  -- 127 or 23 with nothing to delete, by UU
  unfoldable pub underflows : C → Reading C → Rule C
  underflows c r =
      pick (eqb r.terms.underflow underflow_completes) (completes chars by_underflow one_ending (appended (c ∷ []) r))
      (tells (control edit c ∷ []) then only (eqb r.terms.underflow underflow_rings) (writes (BEL ∷ [])))

  -- 127 and 23, which leave so many characters
  unfoldable pub erases : ℕ → C → Reading C → Rule C
  erases left c r =
      pick (is_empty r.input) (underflows c r) (tells (control edit c ∷ []) then deletes chars edited left r)

  unfoldable pub erases_all : C → Reading C → Rule C
  erases_all c r = tells (control edit c ∷ []) then deletes chars edited 0 r

  unfoldable pub shows_again : C → Reading C → Rule C
  shows_again c r = tells (control edit c ∷ []) then redisplays chars r

  -- rule 6
  unfoldable pub edits : C → Reading C → Rule C
  edits c r =
      pick (eqb (chars.code c) DEL) (erases (length r.input - 1) c r)
      (pick (eqb (chars.code c) delete_word_key) (erases (left_by_delete_word (input_codes chars r)) c r)
      (pick (eqb (chars.code c) delete_line_key) (erases_all c r)
      (shows_again c r)))

  -- rules 5, 6 and 7, after raising
  unfoldable pub takes_plain : C → Reading C → Rule C
  takes_plain c r =
      pick (in_set r.terms.set (chars.code c)) (terminates c r)
      (pick (is_edit_key (chars.code c) r) (edits c r)
      (takes_data c r))

  -- rule 4
  unfoldable pub raised_by : Reading C → C → C
  raised_by r c = pick r.terms.raises (chars.raise c) c

  -- the rules in order
  unfoldable pub takes : Key C → Reading C → Rule C
  takes k r =
      here (λ s.
      pick (is_partial (token_codes chars s)) (adds_to_token k.char r)
      (pick k.quoted (takes_data k.char r)
      (pick (is_token_start (chars.code k.char) r) (adds_to_token k.char r)
      (takes_plain (raised_by r k.char) r))))

  -- one key is taken from type-ahead; with type-ahead empty a read with Q and TIMEOUT 0 completes
  unfoldable pub takes_first : List (Key C) → Reading C → Rule C
  takes_first [] r = only (r.terms.timed && eqb r.terms.timeout 0) (completes chars by_timeout no_ending r)
  takes_first (k ∷ ks) r =
      tells (taken k.char r.terms ∷ []) then
      changes (key_taken ks r) then
      takes k (with_idle 0 r)

  -- a whole held token goes first
  unfoldable pub steps_while : Option (Reading C) → Rule C
  steps_while none = still
  steps_while (some r) = here (λ s. pick (is_whole (token_codes chars s)) (takes_token r) (takes_first s.typed.type_ahead r))

  -- a locked step does nothing
  unfoldable pub steps : Rule C
  steps = here (λ s. only (not s.terminal.locked) (steps_while s.pending_read))

  -- Tick: idle rises by one; at TIMEOUT the read completes
  unfoldable pub idles : Reading C → Rule C
  idles r = pick (leb r.terms.timeout (r.idle + 1)) (completes chars by_timeout no_ending r) (sets_idle (r.idle + 1) r)

  unfoldable pub ticks_while : Option (Reading C) → Rule C
  ticks_while none = still
  ticks_while (some r) =
      here (λ s.
      only
      (r.terms.timed &&
      ltb 0 r.terms.timeout &&
      is_empty s.typed.type_ahead &&
      not (is_whole (token_codes chars s)))
      (idles r))

  unfoldable pub ticks : Rule C
  ticks = here (λ s. ticks_while s.pending_read)
