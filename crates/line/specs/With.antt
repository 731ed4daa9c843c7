-- A line, or a call on its way, with one part changed, as the program changes it.
use Rattle.std.specs.Prelude.{◌≡◌, ℕ, List, Some, None}
use Rattle.std.specs.Borrow.{MutBor}
use Rattle.screen.specs.declared.Screen.{Screen}
use Rattle.areas.specs.declared.Writer.{Writer}
use Rattle.line.specs.declared.Terminal.{Terminal}
use Rattle.line.specs.declared.Terms.{Terms}
use Rattle.line.specs.declared.Reading.{Reading}
use Rattle.line.specs.declared.Typed.{Typed}
use Rattle.line.specs.declared.Flow.{Flow}
use Rattle.line.specs.declared.Key.{Key}
use Rattle.line.specs.declared.Line.{Line}
use Rattle.line.specs.declared.Work.{Work}

abbrev pub on_screen : Screen → Terminal → Terminal
on_screen s t =
    record {
      screen = s;
      discarding = t.discarding;
      quoting = t.quoting;
      locked = t.locked;
      skip_linefeed = t.skip_linefeed;
      dropped = t.dropped;
    }

abbrev pub on_terminal : Terminal → Flow → Flow
on_terminal t f = record { terminal = t; typed = f.typed; pending = f.pending }

abbrev pub on_typed : Typed → Flow → Flow
on_typed t f = record { terminal = f.terminal; typed = t; pending = f.pending }

-- with this read pending, and with none
abbrev pub on_read : Reading → Flow → Flow
on_read r f = record { terminal = f.terminal; typed = f.typed; pending = Some r }

abbrev pub off_read : Flow → Flow
off_read f = record { terminal = f.terminal; typed = f.typed; pending = None }

-- a writer into the terminal's area from a call's place on
abbrev pub writer_of : MutBor (List ℕ) → Work → Writer
writer_of area w = record { area = area; at = w.at }

-- what a call on its way then has: this flow, and these next places in the areas
pub record Has (f : Flow) (a s : ℕ) (w : Work) : Type 0 where
  pub flow : w.flow ≡ f
  pub at : w.at ≡ a
  pub sent : w.sent ≡ s

-- the call goes on with another flow, behind what was shown, and behind what was sent
abbrev pub GoesOn : Flow → Work → Work → Type 0
GoesOn f w r = Has f w.at w.sent r

abbrev pub AfterShown : ℕ → Screen → Work → Work → Type 0
AfterShown at s w r = Has (on_terminal (on_screen s w.flow.terminal) w.flow) at w.sent r

abbrev pub AfterSent : ℕ → Work → Work → Type 0
AfterSent n w r = Has w.flow w.at n r

-- A line with one part changed.
abbrev pub on_flow : Flow → Line → Line
on_flow f l =
    record {
      attributes = l.attributes;
      keys = l.keys;
      text = l.text;
      set = l.set;
      last_set = l.last_set;
      largest_read = l.largest_read;
      initiated = l.initiated;
      switches = l.switches;
      terms = l.terms;
      flow = f;
    }

abbrev pub on_keys : List Key → Line → Line
on_keys keys l =
    record {
      attributes = l.attributes;
      keys = keys;
      text = l.text;
      set = l.set;
      last_set = l.last_set;
      largest_read = l.largest_read;
      initiated = l.initiated;
      switches = l.switches;
      terms = l.terms;
      flow = l.flow;
    }

-- the line as a rule sees it: the terms and the text that it was lent in place of the line's own
abbrev pub lent : Terms → List ℕ → Line → Line
lent t text l =
    record {
      attributes = l.attributes;
      keys = l.keys;
      text = text;
      set = l.set;
      last_set = l.last_set;
      largest_read = l.largest_read;
      initiated = l.initiated;
      switches = l.switches;
      terms = t;
      flow = l.flow;
    }
