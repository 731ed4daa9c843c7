-- What is known of a Start Read that is accepted: the Start Read test, and a display that starts at 0; and the line that it opens a read on.
use Rattle.std.specs.Prelude.{ℕ, ◌-◌, ◌≤◌, ◌≡◌, ◌&&◌, List, eqb, length}
use Rattle.rules.specs.Numbers.{input_size}
use Rattle.rules.specs.Choice.{pick, is_on, is_off}
use Rattle.rules.specs.Messages.Codec.{set_size}
use Rattle.rules.specs.StartRead.{chooses_this}
use Rattle.rules.specs.State.{codes}
use Rattle.rules.specs.StartRead.Acceptance as rules
use Rattle.rules.specs.StartRead.Acceptance.{data_behind, hides_input}
use Rattle.message.specs.declared.StartReadFields.{StartReadFields}
use Rattle.fields.specs.Spans.{span_of}
use Rattle.message.specs.Found.{start_read_in}
use Rattle.screen.specs.declared.Screen.{Screen}
use Rattle.sets.specs.declared.Set.{Set}
use Rattle.characteristics.specs.declared.Switches.{Switches}
use Rattle.sets.specs.View.{set_of, CountedSet}
use Rattle.line.specs.declared.Terms.{Terms}
use Rattle.line.specs.declared.Reading.{Reading}
use Rattle.line.specs.declared.Line.{Line}
use Rattle.line.specs.View.{view, terms_of, input_of}

pub record Startable (s : List ℕ) (f : StartReadFields) : Type 0 where
  pub text : length (span_of s f.text) ≡ f.end_of_data
  pub prompt : f.end_of_prompt ≤ f.end_of_data
  pub within : f.end_of_data ≤ f.max_length
  pub largest : f.max_length ≤ input_size
  pub set : length (span_of s f.set) ≤ set_size

-- the read as it begins, at this column
abbrev pub reading_at : List ℕ → StartReadFields → ℕ → Reading
reading_at s f column =
    record {
      input_len = f.end_of_data - f.end_of_prompt;
      low_water = f.low_water;
      hidden_lf = hides_input (start_read_in s f);
      display_column = column;
      idle = 0;
    }

-- what is fixed for the whole of the read, but for its set and text
abbrev pub terms_for : StartReadFields → Switches → Screen → ℕ → Terms
terms_for f switches cursor size =
    record {
      underflow = f.underflow;
      disables = f.disables;
      raises = rules.chosen f.raises switches.raising;
      recognises = rules.chosen f.escapes switches.recognising;
      echoes = is_off f.silent && switches.echoing;
      terminator_echo = is_on f.terminator_echo;
      auto_prompt = switches.prompting;
      timed = is_on f.timed;
      timeout = f.timeout;
      max_length = f.max_length;
      end_of_prompt = f.end_of_prompt;
      prompt_len = size;
      column = cursor.column;
      line = cursor.line;
    }

-- a line with a read's terms, set and text, and the last set given
abbrev pub on_opened : Terms → Set → List ℕ → Set → Line → Line
on_opened terms set text last l =
    record {
      attributes = l.attributes;
      keys = l.keys;
      text = text;
      set = set;
      last_set = last;
      largest_read = l.largest_read;
      initiated = l.initiated;
      switches = l.switches;
      terms = terms;
      flow = l.flow;
    }

-- the line with all that a Start Read fixes for its read
pub record Opens (s : List ℕ) (f : StartReadFields) (l next : Line) : Type 0 where
  pub same : next ≡ on_opened next.terms next.set next.text next.last_set l
  pub terms : terms_of next ≡ rules.opened_terms codes (start_read_in s f) (view l)
  pub input : input_of (f.end_of_data - f.end_of_prompt) next.text ≡ data_behind (start_read_in s f)
  pub prompting : next.terms.auto_prompt ≡ l.switches.prompting
  pub last : set_of next.last_set ≡ pick (eqb f.set_choice chooses_this) (span_of s f.set) (set_of l.last_set)
  pub size : length next.text ≡ input_size
  pub prompt : next.terms.prompt_len ≤ input_size
  pub set : CountedSet next.set
  pub last_set : CountedSet next.last_set
