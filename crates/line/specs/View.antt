-- The state of the rules that a line stands for. What lies behind a count is the program's own, and so are `terms`, `set` and `text`
-- while no read is pending, but for the counts within their arrays (`Counted`).
use Rattle.std.specs.Prelude.{ℕ, zero, suc, ◌-◌, true, false, List, [], ◌∷◌, take, drop, Option, Some, None}
use Rattle.std.proofs.Math.Option as math
use Rattle.rules.specs.Numbers.{input_size}
use Rattle.rules.specs.State as rules
use Rattle.screen.specs.View as screen
use Rattle.sets.specs.View.{set_of}
use Rattle.characteristics.specs.View.{switches_of}
use Rattle.line.specs.declared.Terminal.{Terminal}
use Rattle.line.specs.declared.Typed.{Typed}
use Rattle.line.specs.declared.Reading.{Reading}
use Rattle.line.specs.declared.Key.{Key}
use Rattle.line.specs.declared.Line.{Line}

abbrev pub terminal_of : Terminal → rules.Terminal
terminal_of t =
    record {
      screen = screen.screen_view t.screen;
      discarding = t.discarding;
      quoting = t.quoting;
      locked = t.locked;
      skip_linefeed = t.skip_linefeed;
      dropped = t.dropped;
    }

-- a key as its array has it
abbrev pub plain_key : ℕ → Key
plain_key c = record { code = c; quoted = false }

abbrev pub quoted_key : ℕ → Key
quoted_key c = record { code = c; quoted = true }

abbrev pub key_of : Key → rules.Key ℕ
key_of k = record { char = k.code; quoted = k.quoted }

-- what stands behind the end of an array: keys of code 0
abbrev pub no_key : Key
no_key = plain_key 0

-- the first so many keys of an array
unfoldable pub keys_of : ℕ → List Key → List (rules.Key ℕ)
keys_of zero keys = []
keys_of (suc n) [] = key_of no_key ∷ keys_of n []
keys_of (suc n) (k ∷ keys) = key_of k ∷ keys_of n keys

unfoldable pub token_of : Typed → List ℕ
token_of t = take t.token_len t.token

abbrev pub typed_of : List Key → Typed → rules.Typed ℕ
typed_of keys t = record { type_ahead = keys_of t.keys_len keys; token = token_of t }

-- the text of a read: what stands after the prompt in front, the prompt at the end
unfoldable pub input_of : ℕ → List ℕ → List ℕ
input_of count text = take count text

unfoldable pub prompt_of : ℕ → List ℕ → List ℕ
prompt_of len text = drop (input_size - len) text

abbrev pub terms_of : Line → rules.Terms
terms_of l =
    record {
      underflow = l.terms.underflow;
      disables = l.terms.disables;
      raises = l.terms.raises;
      recognises = l.terms.recognises;
      echoes = l.terms.echoes;
      terminator_echo = l.terms.terminator_echo;
      timed = l.terms.timed;
      timeout = l.terms.timeout;
      set = set_of l.set;
      max_length = l.terms.max_length;
      end_of_prompt = l.terms.end_of_prompt;
      prompt = prompt_of l.terms.prompt_len l.text;
      column = l.terms.column;
      line = l.terms.line;
    }

-- a read on this line
abbrev pub reading_of : Line → Reading → rules.Reading ℕ
reading_of l r =
    record {
      terms = terms_of l;
      input = input_of r.input_len l.text;
      low_water = r.low_water;
      hidden_lf = r.hidden_lf;
      display_column = r.display_column;
      idle = r.idle;
    }

-- the read that is pending on it, if one is
abbrev pub pending_of : Line → Option Reading → math.Option (rules.Reading ℕ)
pending_of l None = math.none
pending_of l (Some r) = math.some (reading_of l r)

abbrev pub host_of : Line → rules.Host
host_of l =
    record {
      initiated = l.initiated;
      switches = switches_of l.switches;
      attributes = l.attributes;
      last_set = set_of l.last_set;
      largest_read = l.largest_read;
    }

abbrev pub view : Line → rules.State ℕ
view l =
    record {
      host = host_of l;
      terminal = terminal_of l.flow.terminal;
      typed = typed_of l.keys l.flow.typed;
      pending_read = pending_of l l.flow.pending;
    }
