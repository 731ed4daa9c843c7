-- Acts: which rule each does, and what an event meets.
use Rattle.std.specs.Prelude.{ℕ, ◌<◌, ◌≡◌, Bool, true, false, List, length, get_or, drop, Option, Some, None}
use Rattle.rules.specs.Numbers.{code_count, type_ahead_size, token_size}
use Rattle.rules.specs.State as rules
use Rattle.rules.specs.State.{State, codes, with_idle}
use Rattle.rules.specs.Turns.{Turn, Rule, still, changes, ◌then◌}
use Rattle.rules.specs.ReadData.{no_ending, by_timeout, completes}
use Rattle.rules.specs.Arrival.{stores, stores_quoted, sends_out_of_band, clears_at_once, quote_key, quotes, rubbing_out, clear_rule, discard_key, flips_discard}
use Rattle.rules.specs.Steps as steps
use Rattle.rules.specs.Steps.{takes_token, adds_to_token, terminates, edits, takes_data, sets_idle}
use Rattle.rules.specs.Calls.{message_bytes}
use Rattle.message.specs.Found.{held_in}
use Rattle.line.specs.declared.Terms.{Terms}
use Rattle.line.specs.declared.Reading.{Reading}
use Rattle.line.specs.declared.Flow.{Flow}
use Rattle.line.specs.declared.Line.{Line}
use Rattle.line.specs.declared.Work.{Work}
use Rattle.line.specs.declared.acts.Taken.{Taken}
use Rattle.line.specs.declared.acts.Taken.TheVariants.{Token, Terminator, Edit, Data}
use Rattle.line.specs.declared.acts.Act.{Act}
use Rattle.line.specs.declared.acts.Act.TheVariants.{Nothing, Stores, StoresQuoted, SendsOutOfBand, ClearsAtOnce, Quotes, Clears, FlipsDiscard}
use Rattle.line.specs.declared.acts.Act.TheVariants.{TakesToken, Takes, TimesOut, Idles, Obeys}
use Rattle.line.specs.View.{view, no_key, key_of, keys_of, reading_of}
use Rattle.line.specs.ReadChanges.{HasRoom, idling}
use Rattle.line.specs.With.{on_flow, on_keys, lent}
use Rattle.line.specs.KeyArray.{keys_after, shifted}
use Rattle.line.specs.Promise.{on, Does}
use Rattle.line.specs.Host.{message_of, Accepted, obeys_held, flow_rule, StartableMessage, Prompts}

-- a read of a line, with idle at 0
abbrev pub idle_at_zero : Line → Reading → rules.Reading ℕ
idle_at_zero l r = with_idle 0 (reading_of l r)

-- what `takes_first` changes before the key's rule: the first key of this line is taken by its read
abbrev pub key_taken : Line → Reading → State ℕ → State ℕ
key_taken l r = steps.key_taken (drop 1 (keys_of l.flow.typed.keys_len l.keys)) (reading_of l r)

abbrev pub takes_key : Line → Reading → Rule ℕ
takes_key l r = changes (key_taken l r)

-- a rule for the read that is pending; nothing where none is
abbrev pub for_pending : (Reading → Rule ℕ) → Option Reading → Rule ℕ
for_pending rule None = still
for_pending rule (Some r) = rule r

-- the rule that a taken key meets
abbrev pub taken_rule : Taken → rules.Reading ℕ → Rule ℕ
taken_rule (Token c) r = adds_to_token codes c r
taken_rule (Terminator c) r = terminates codes c r
taken_rule (Edit c) r = edits codes c r
taken_rule (Data c) r = takes_data codes c r

-- The rule that an act does; `s` is the slice of a host message. `quotes` and `flips_discard` want their key only
-- to say what became of it.
abbrev pub act_rule : List ℕ → Line → Act → Rule ℕ
act_rule s l Nothing = still
act_rule s l (Stores c) = stores type_ahead_size false c
act_rule s l (StoresQuoted c) = stores_quoted c
act_rule s l (SendsOutOfBand c) = sends_out_of_band codes c
act_rule s l (ClearsAtOnce c) = clears_at_once codes c
act_rule s l Quotes = quotes quote_key
act_rule s l Clears = clear_rule codes rubbing_out
act_rule s l FlipsDiscard = flips_discard discard_key
act_rule s l TakesToken = for_pending (λ r. takes_token codes (reading_of l r)) l.flow.pending
act_rule s l (Takes k) = for_pending (λ r. takes_key l r then taken_rule k (idle_at_zero l r)) l.flow.pending
act_rule s l TimesOut = for_pending (λ r. completes codes by_timeout no_ending (reading_of l r)) l.flow.pending
act_rule s l (Idles idle) = for_pending (λ r. sets_idle idle (reading_of l r)) l.flow.pending
act_rule s l (Obeys m) = obeys_held (held_in s (message_of m))

-- a key can be taken: one waits, this read has room for it, and so has a token that is begun
pub record CanTakeKey (r : Reading) (f : Flow) (t : Terms) : Type 0 where
  pub room : HasRoom t r
  pub waits : 0 < f.typed.keys_len
  pub short : f.typed.token_len < token_size

-- a read is pending of which this holds
abbrev pub IsPending : (Reading → Type 0) → Option Reading → Type 0
IsPending P None = ⊥
IsPending P (Some r) = P r

-- the events that may meet an act; a key is its arrival
pub record EventKinds : Type 0 where
  pub key : Bool
  pub step : Bool
  pub tick : Bool
  pub host : Bool

abbrev pub event_kinds_of : Act → EventKinds
event_kinds_of Nothing = record { key = true; step = true; tick = true; host = true }
event_kinds_of (Stores c) = record { key = true; step = false; tick = false; host = false }
event_kinds_of (StoresQuoted c) = record { key = true; step = false; tick = false; host = false }
event_kinds_of (SendsOutOfBand c) = record { key = true; step = false; tick = false; host = false }
event_kinds_of (ClearsAtOnce c) = record { key = true; step = false; tick = false; host = false }
event_kinds_of Quotes = record { key = true; step = false; tick = false; host = false }
event_kinds_of Clears = record { key = true; step = false; tick = false; host = false }
event_kinds_of FlipsDiscard = record { key = true; step = false; tick = false; host = false }
event_kinds_of TakesToken = record { key = false; step = true; tick = false; host = false }
event_kinds_of (Takes k) = record { key = false; step = true; tick = false; host = false }
event_kinds_of TimesOut = record { key = false; step = true; tick = true; host = false }
event_kinds_of (Idles idle) = record { key = false; step = false; tick = true; host = false }
event_kinds_of (Obeys m) = record { key = false; step = false; tick = false; host = true }

-- what is known of the line once an act is chosen
abbrev pub Ready : List ℕ → Line → Act → Type 0
Ready s l Nothing = Unit {0}
Ready s l (Stores c) = c < code_count
Ready s l (StoresQuoted c) = c < code_count
Ready s l (SendsOutOfBand c) = Unit {0}
Ready s l (ClearsAtOnce c) = Unit {0}
Ready s l Quotes = Unit {0}
Ready s l Clears = Unit {0}
Ready s l FlipsDiscard = Unit {0}
Ready s l TakesToken = IsPending (HasRoom l.terms) l.flow.pending
Ready s l (Takes k) = IsPending (λ r. CanTakeKey r l.flow l.terms) l.flow.pending
Ready s l TimesOut = Unit {0}
Ready s l (Idles idle) = Unit {0}
Ready s l (Obeys m) = Accepted l s m

-- what is seen of a turn: all but what became of keys
pub record Effect : Type 0 where
  pub state : State ℕ
  pub bytes : List ℕ
  pub messages : List ℕ

unfoldable pub effect_of : Turn ℕ → Effect
effect_of t = record { state = t.state; bytes = t.bytes; messages = message_bytes codes t }

-- from this line a rule does what the act does
pub record Meets (rule : Rule ℕ) (s : List ℕ) (l : Line) (a : Act) : Type 0 where
  pub same : effect_of (rule (view l)) ≡ effect_of (act_rule s l a (view l))
  pub ready : Ready s l a

-- how the first key of a line is taken, where it can be
abbrev pub TakesFirst : List ℕ → Line → Taken → Type 0
TakesFirst s l k =
    (r : Reading) → l.flow.pending ≡ Some r → CanTakeKey r l.flow l.terms →
    Meets (takes_key l r then steps.takes codes (key_of (get_or l.keys 0 no_key)) (idle_at_zero l r)) s l (Takes k)

-- what is known of a call that has taken the first key, by a read that is pending as this one then
pub record HasTakenKey (next : Reading) (w v : Work) : Type 0 where
  pub does : (r : Reading) → next ≡ idling 0 r → (l : Line) → length l.keys ≡ type_ahead_size → (t m : List ℕ) →
      Does (takes_key (on_flow w.flow l) r) (on l w) t m (on (shifted w.flow l) v) t m
  pub token : v.flow.typed.token_len ≡ w.flow.typed.token_len

-- what the acts of a call ask: `Ready`, of a message only the Start Read test
abbrev pub Doable : List ℕ → Flow → Terms → Act → Type 0
Doable s f t Nothing = Unit {0}
Doable s f t (Stores c) = c < code_count
Doable s f t (StoresQuoted c) = c < code_count
Doable s f t (SendsOutOfBand c) = Unit {0}
Doable s f t (ClearsAtOnce c) = Unit {0}
Doable s f t Quotes = Unit {0}
Doable s f t Clears = Unit {0}
Doable s f t FlipsDiscard = Unit {0}
Doable s f t TakesToken = IsPending (HasRoom t) f.pending
Doable s f t (Takes k) = IsPending (λ r. CanTakeKey r f t) f.pending
Doable s f t TimesOut = Unit {0}
Doable s f t (Idles idle) = Unit {0}
Doable s f t (Obeys m) = StartableMessage s m

-- the act's rule, but of a host message without what it sets and reports
abbrev pub flow_act : List ℕ → Line → Act → Rule ℕ
flow_act s l Nothing = act_rule s l Nothing
flow_act s l (Stores c) = act_rule s l (Stores c)
flow_act s l (StoresQuoted c) = act_rule s l (StoresQuoted c)
flow_act s l (SendsOutOfBand c) = act_rule s l (SendsOutOfBand c)
flow_act s l (ClearsAtOnce c) = act_rule s l (ClearsAtOnce c)
flow_act s l Quotes = act_rule s l Quotes
flow_act s l Clears = act_rule s l Clears
flow_act s l FlipsDiscard = act_rule s l FlipsDiscard
flow_act s l TakesToken = act_rule s l TakesToken
flow_act s l (Takes k) = act_rule s l (Takes k)
flow_act s l TimesOut = act_rule s l TimesOut
flow_act s l (Idles idle) = act_rule s l (Idles idle)
flow_act s l (Obeys m) = flow_rule s l m

-- `Prompts` of the message that an act obeys
abbrev pub PromptsBy : Terms → Line → Act → Type 0
PromptsBy t l Nothing = Unit {0}
PromptsBy t l (Stores c) = Unit {0}
PromptsBy t l (StoresQuoted c) = Unit {0}
PromptsBy t l (SendsOutOfBand c) = Unit {0}
PromptsBy t l (ClearsAtOnce c) = Unit {0}
PromptsBy t l Quotes = Unit {0}
PromptsBy t l Clears = Unit {0}
PromptsBy t l FlipsDiscard = Unit {0}
PromptsBy t l TakesToken = Unit {0}
PromptsBy t l (Takes k) = Unit {0}
PromptsBy t l TimesOut = Unit {0}
PromptsBy t l (Idles idle) = Unit {0}
PromptsBy t l (Obeys m) = Prompts t l m

-- What the acts of a call promise on a line: `flow_act`, from the line with these terms and this text to the one with its keys moved and its text changed.
abbrev pub Done : List ℕ → Act → Terms → Line → Work → List ℕ → List ℕ → List ℕ → Work → List ℕ → List ℕ → List ℕ → Type 0
Done s act t l w text terminal messages r text' terminal' messages' =
    length l.keys ≡ type_ahead_size → PromptsBy t l act →
    Does (flow_act s (on_flow w.flow (lent t text l)) act) (on (lent t text l) w) terminal messages
    (on (lent t text' (on_keys (keys_after act w.flow.typed.keys_len l.keys) l)) r) terminal' messages'
