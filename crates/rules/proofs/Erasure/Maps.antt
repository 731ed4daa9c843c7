-- A map of typed characters, carried to all that holds them. They are `abbrev`, so that what holds no character computes to itself.
use Prim.Native.Nat.{ℕ}
use mathlib.Core.Path.{◌≡◌}
use mathlib.Core.List.{map}
use mathlib.Core.Option
use Rattle.rules.specs.State.{Characters, Key, Typed, Reading, State}
use Rattle.rules.specs.Turns.{Fate, Turn, arrived, control, crowded_out, taken, tokened, cleared, lost, edited}
use Rattle.rules.specs.Calls.{Event, Call, Answer, key, step, tick, message, load, map_text}

-- the map goes from the one reading of characters to the other
pub record Maps {C D : Type 0} (f : C → D) (cs : Characters C) (ds : Characters D) : Type 0 where
  pub code : (c : C) → ds.code (f c) ≡ cs.code c
  pub raise : (c : C) → f (cs.raise c) ≡ ds.raise (f c)
  pub given : (n : ℕ) → f (cs.given n) ≡ ds.given n

module _ {C D : Type 0} (f : C → D) where
  abbrev pub map_key : Key C → Key D
  map_key k = record { char = f k.char; quoted = k.quoted }

  abbrev pub map_typed : Typed C → Typed D
  map_typed t = record { type_ahead = map map_key t.type_ahead; token = map f t.token }

  abbrev pub map_reading : Reading C → Reading D
  map_reading r =
      record {
        terms = r.terms;
        input = map f r.input;
        low_water = r.low_water;
        hidden_lf = r.hidden_lf;
        display_column = r.display_column;
        idle = r.idle;
      }

  abbrev pub map_state : State C → State D
  map_state s =
      record {
        host = s.host;
        terminal = s.terminal;
        typed = map_typed s.typed;
        pending_read = Option.map map_reading s.pending_read;
      }

  abbrev pub map_fate : Fate C → Fate D
  map_fate (arrived c band) = arrived (f c) band
  map_fate (control purpose c) = control purpose (f c)
  map_fate (crowded_out c) = crowded_out (f c)
  map_fate (taken c terms) = taken (f c) terms
  map_fate (tokened c) = tokened (f c)
  map_fate (cleared c) = cleared (f c)
  map_fate (lost c) = lost (f c)
  map_fate (edited c) = edited (f c)

  abbrev pub map_turn : Turn C → Turn D
  map_turn t =
      record {
        bytes = t.bytes;
        messages = map (map_text f) t.messages;
        fates = map map_fate t.fates;
        state = map_state t.state;
      }

  abbrev pub map_event : Event C → Event D
  map_event (key c) = key (f c)
  map_event step = step
  map_event tick = tick
  map_event (message bytes) = message bytes
  map_event (load own site) = load own site

  abbrev pub map_call : Call C → Call D
  map_call c = record { terminal = c.terminal; messages = c.messages; event = map_event c.event }

  abbrev pub map_answer : Answer C → Answer D
  map_answer a = record { number = a.number; turn = map_turn a.turn }
