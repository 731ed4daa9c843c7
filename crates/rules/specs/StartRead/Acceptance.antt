-- Page 01, "Start Read": what acceptance does.
use Rattle.std.specs.Prelude.{ℕ, Bool, ◌&&◌, List, [], ◌∷◌, map, eqb, take, drop}
use Rattle.rules.specs.Choice.{pick, is_on, is_off, bit}
use Rattle.rules.specs.Messages.Layout.{byte_at}
use Rattle.rules.specs.Messages.Forms.{Message}
use Rattle.rules.specs.Screen.{SOH, LF}
use Rattle.rules.specs.State.{Characters, Terms, Reading, State, with_host, with_last_set}
use Rattle.rules.specs.Turns.{Rule, writes, changes, here, ◌then◌, only}
use Rattle.rules.specs.ReadData.{no_ending, by_full_buffer, completes}
use Rattle.rules.specs.Editing.{displays}
use Rattle.rules.specs.Arrival.{empties_typed}
use Rattle.rules.specs.StartRead as fields
use Rattle.rules.specs.StartRead.{chosen_set}

-- II and EE: 0 leaves it to the characteristic, 1 is off, 2 is on
unfoldable pub chosen : ℕ → Bool → Bool
chosen n characteristic = pick (eqb n fields.as_characteristic) characteristic (eqb n fields.switched_on)

-- with F, a first DATA byte LF is never displayed
unfoldable pub hides_lf : Message ℕ → Bool
hides_lf m = is_on (fields.formats m) && eqb (byte_at m.text 0) LF

-- the prompt, DATA before END-OF-PROMPT, as it is displayed, and what DATA has behind it
unfoldable pub shown_prompt : Message ℕ → List ℕ
shown_prompt m = drop (bit (hides_lf m)) (take (fields.end_of_prompt m) m.text)

unfoldable pub data_behind : Message ℕ → List ℕ
data_behind m = drop (fields.end_of_prompt m) m.text

-- without a prompt it is the input's first character that is hidden
unfoldable pub hides_input : Message ℕ → Bool
hides_input m = hides_lf m && eqb (fields.end_of_prompt m) 0

module _ {C : Type 0} where
  -- C clears type-ahead and any held token
  unfoldable pub clears_first : Message ℕ → Rule C
  clears_first m = only (is_on (fields.clears_type_ahead m)) empties_typed

  -- F writes LF if the last terminal byte was CR
  unfoldable pub feeds_line : Message ℕ → Rule C
  feeds_line m = here (λ s. only (is_on (fields.formats m) && s.terminal.screen.after_cr) (writes (LF ∷ [])))

  -- auto prompt writes code 1
  unfoldable pub auto_prompts : Rule C
  auto_prompts = here (λ s. only s.host.switches.prompting (writes (SOH ∷ [])))

module _ {C : Type 0} (chars : Characters C) where
  -- the read that it opens: what is fixed for the whole of it, and what it begins with
  unfoldable pub opened_terms : Message ℕ → State C → Terms
  opened_terms m s =
      record {
        underflow = fields.underflow m;
        disables = fields.disables m;
        raises = chosen (fields.raises m) s.host.switches.raising;
        recognises = chosen (fields.escapes m) s.host.switches.recognising;
        echoes = is_off (fields.silent m) && s.host.switches.echoing;
        terminator_echo = is_on (fields.terminator_echo m);
        timed = is_on (fields.timed m);
        timeout = fields.timeout m;
        set = chosen_set s.host.last_set m;
        max_length = fields.max_length m;
        end_of_prompt = fields.end_of_prompt m;
        prompt = shown_prompt m;
        column = s.terminal.screen.column;
        line = s.terminal.screen.line;
      }

  unfoldable pub opened_read : Message ℕ → State C → Reading C
  opened_read m s =
      record {
        terms = opened_terms m s;
        input = map chars.given (data_behind m);
        low_water = fields.low_water m;
        hidden_lf = hides_input m;
        display_column = s.terminal.screen.column;
        idle = 0;
      }

  -- ZZ 1 gives the set that ZZ 0 looks at
  unfoldable pub remembers_set : Message ℕ → Rule C
  remembers_set m = only (eqb (fields.set_choice m) fields.chooses_this) (changes (λ s. with_host (with_last_set m.set s.host) s))

  -- if END-OF-DATA equals MAX-LENGTH the read completes there
  unfoldable pub completes_if_full : Message ℕ → Reading C → Rule C
  completes_if_full m r = only (eqb (fields.end_of_data m) (fields.max_length m)) (completes chars by_full_buffer no_ending r)

  -- in page 01's order, the note being in the read that begins here
  unfoldable pub begins : Message ℕ → Reading C → Rule C
  begins m r =
      clears_first m then
      feeds_line m then
      auto_prompts then
      displays chars r then
      completes_if_full m r

  unfoldable pub starts_read : Message ℕ → Rule C
  starts_read m = here (λ s. begins m (opened_read m s) then remembers_set m)
