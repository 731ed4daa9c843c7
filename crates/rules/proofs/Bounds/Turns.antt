-- What a rule does within bounds: it leaves a bounded line, writes so many terminal bytes and so many bytes of messages, and
-- every message fits. One law for each way that rules are put together.
use mathlib.Core.Path.{◌≡◌}
use Prim.Native.Nat.{ℕ, ◌+◌, ◌*◌, ◌≤◌}
use native.Mathlib.Omega.{arith}
use mathlib.Core.Bool.{Bool, true, false}
use mathlib.Core.List.{List}
use mathlib.Core.Option.{Option}
use lib.ListN.{length, length-append}
use Rattle.rules.specs.Choice.{pick, joined}
use Rattle.rules.specs.Numbers.{input_size, terminal_area, message_area}
use Rattle.rules.specs.Messages.Forms.{Message}
use Rattle.rules.specs.State.{Host, Terminal, Key, Reading, State, with_host, with_terminal, with_typed, with_read}
use Rattle.rules.specs.Turns.{Fate, Turn, Rule, still, writes, sends, tells, changes, behind, ◌then◌, only}
use Rattle.rules.specs.Bounds.{BoundedHost, BoundedTerminal, BoundedTyped, BoundedRead}
use Rattle.rules.proofs.Choice.{pick_case}
use Rattle.rules.proofs.Numbers.{rubbing_room, answer_room}
use Rattle.rules.proofs.Bounds.Screen.{shown_all_bounded}
use Rattle.rules.proofs.Bounds.Sent.{Sent, AllFit, all_fit_append, area_of, area_append, area_one}

-- what is asked of the pending read
abbrev pub OfRead : Type 1
OfRead = Option (Reading ℕ) → Type 0

-- the invariant, with another demand on the pending read: inside a call it may be full for a moment
pub record Steady (R : OfRead) (s : State ℕ) : Type 0 where
  pub host : BoundedHost s.host
  pub terminal : BoundedTerminal s.terminal
  pub typed : BoundedTyped s.typed
  pub pending_read : R s.pending_read

pub record Good (R : OfRead) (bytes area : ℕ) (t : Turn ℕ) : Type 0 where
  pub state : Steady R t.state
  pub terminal : length t.bytes ≤ bytes
  pub messages : area_of t.messages ≤ area
  pub fit : AllFit t.messages

-- One part of the state changed.
module _ {R : OfRead} {s : State ℕ} (h : Steady R s) where
  pub rehosted : {x : Host} → BoundedHost x → Steady R (with_host x s)
  rehosted b = record { host = b; terminal = h.terminal; typed = h.typed; pending_read = h.pending_read }

  pub reset : {x : Terminal} → BoundedTerminal x → Steady R (with_terminal x s)
  reset b = record { host = h.host; terminal = b; typed = h.typed; pending_read = h.pending_read }

  -- the terminal's flags may be anything
  pub reflagged : {discarding quoting locked skip_linefeed : Bool} →
      Steady R
      (with_terminal
      (record {
        screen = s.terminal.screen;
        discarding = discarding;
        quoting = quoting;
        locked = locked;
        skip_linefeed = skip_linefeed;
        dropped = s.terminal.dropped;
      })
      s)
  reflagged = reset (record { column = h.terminal.column; line = h.terminal.line; dropped = h.terminal.dropped })

  pub retyped : {keys : List (Key ℕ)} {token : List ℕ} → BoundedTyped (record { type_ahead = keys; token = token }) → Steady R (with_typed keys token s)
  retyped b = record { host = h.host; terminal = h.terminal; typed = b; pending_read = h.pending_read }

  pub reread : {P : OfRead} (o : Option (Reading ℕ)) → P o → Steady P (with_read o s)
  reread o b = record { host = h.host; terminal = h.terminal; typed = h.typed; pending_read = b }

-- One rule alone.
module _ {R : OfRead} {bytes area : ℕ} {s : State ℕ} where
  pub still_good : Steady R s → Good R bytes area (still s)
  unfolding still joined
  still_good h = record { state = h; terminal = omega arith; messages = omega arith; fit = tt }

  pub changes_good : (f : State ℕ → State ℕ) → Steady R (f s) → Good R bytes area (changes f s)
  unfolding changes joined
  changes_good f h = record { state = h; terminal = omega arith; messages = omega arith; fit = tt }

  pub writes_good : (bs : List ℕ) → length bs ≤ bytes → Steady R s → Good R bytes area (writes bs s)
  unfolding writes joined
  writes_good bs room h =
      let b = shown_all_bounded bs s.terminal.screen (record { column = h.terminal.column; line = h.terminal.line }) in
      record {
        state = reset h (record { column = b.column; line = b.line; dropped = h.terminal.dropped });
        terminal = room;
        messages = omega arith;
        fit = tt;
      }

  pub sends_good : {most : ℕ} (m : Message ℕ) → Sent most m → 2 + most ≤ area → Steady R s → Good R bytes area (sends m s)
  unfolding sends
  sends_good m sent room h =
      let n = area_one m in
      record { state = h; terminal = omega arith; messages = omega arith; fit = (sent.fit, tt) }

  -- a rule that writes and sends nothing, then another
  pub tells_then : (fs : List (Fate ℕ)) (g : Rule ℕ) → Good R bytes area (g s) → Good R bytes area ((tells fs then g) s)
  unfolding ◌then◌ behind tells
  tells_then fs g h = record { state = h.state; terminal = h.terminal; messages = h.messages; fit = h.fit }

  pub changes_then : (f : State ℕ → State ℕ) (g : Rule ℕ) → Good R bytes area (g (f s)) → Good R bytes area ((changes f then g) s)
  unfolding ◌then◌ behind changes
  changes_then f g h = record { state = h.state; terminal = h.terminal; messages = h.messages; fit = h.fit }

-- What two turns write, one behind the other, adds up.
pub behind_good : {P R : OfRead} {bytes area : ℕ} (t u : Turn ℕ) (b₁ b₂ a₁ a₂ : ℕ) → b₁ + b₂ ≤ bytes → a₁ + a₂ ≤ area →
    Good P b₁ a₁ t → Good R b₂ a₂ u → Good R bytes area (behind t u)
unfolding behind
behind_good t u b₁ b₂ a₁ a₂ in_bytes in_area h k =
    let n = length-append t.bytes u.bytes in
    let a = area_append t.messages u.messages in
    record {
      state = k.state;
      terminal = omega arith;
      messages = omega arith;
      fit = all_fit_append t.messages u.messages h.fit k.fit;
    }

-- A rule, then another from any state that it may leave.
module _ {P R : OfRead} {bytes area : ℕ} {s : State ℕ} (f g : Rule ℕ) where
  pub then_good : (b₁ b₂ a₁ a₂ : ℕ) → b₁ + b₂ ≤ bytes → a₁ + a₂ ≤ area →
      Good P b₁ a₁ (f s) → ((s' : State ℕ) → Steady P s' → Good R b₂ a₂ (g s')) → Good R bytes area ((f then g) s)
  unfolding ◌then◌
  then_good b₁ b₂ a₁ a₂ in_bytes in_area h k =
      behind_good (f s) (g (f s).state) b₁ b₂ a₁ a₂ in_bytes in_area h (k (f s).state h.state)

  -- the first writes and sends nothing, or the second
  pub quiet_then : Good P 0 0 (f s) → ((s' : State ℕ) → Steady P s' → Good R bytes area (g s')) → Good R bytes area ((f then g) s)
  quiet_then h k = then_good 0 bytes 0 area (omega arith) (omega arith) h k

  pub then_quiet : Good P bytes area (f s) → ((s' : State ℕ) → Steady P s' → Good R 0 0 (g s')) → Good R bytes area ((f then g) s)
  then_quiet h k = then_good bytes 0 area 0 (omega arith) (omega arith) h k

  -- the first only writes, and the second only sends
  pub writes_sends : Good P bytes 0 (f s) → ((s' : State ℕ) → Steady P s' → Good R 0 area (g s')) → Good R bytes area ((f then g) s)
  writes_sends h k = then_good bytes 0 0 area (omega arith) (omega arith) h k

-- more room
pub roomier : {R : OfRead} {t : Turn ℕ} (b a : ℕ) {bytes area : ℕ} → b ≤ bytes → a ≤ area → Good R b a t → Good R bytes area t
roomier b a p q h = record { state = h.state; terminal = omega arith; messages = omega arith; fit = h.fit }

-- A choice of rules, and a rule under a test.
module _ {R : OfRead} {bytes area : ℕ} {s : State ℕ} (t : Bool) where
  pub pick_good : (f g : Rule ℕ) → (t ≡ true → Good R bytes area (f s)) → (t ≡ false → Good R bytes area (g s)) →
      Good R bytes area (pick t f g s)
  pick_good f g h k = pick_case (λ (part : Rule ℕ). Good R bytes area (part s)) t h k

  pub only_good : (f : Rule ℕ) → (t ≡ true → Good R bytes area (f s)) → (t ≡ false → Steady R s) → Good R bytes area (only t f s)
  unfolding only
  only_good f h k = pick_good f still h (λ e. still_good (k e))

-- What a call asks of its rule.
abbrev pub Fine : Turn ℕ → Type 0
Fine t = Good BoundedRead terminal_area message_area t

-- Most keys that arrive write a BEL at most, and send no more than an Out-of-Band.
abbrev pub arrival_bytes : ℕ
arrival_bytes = 1

abbrev pub arrival_area : ℕ
arrival_area = 5

-- Read Data with a whole buffer, behind its length.
abbrev pub answer_area : ℕ
answer_area = 10 + input_size

-- A step rubs out a buffer at most, or echoes, and sends Read Data at most.
abbrev pub step_bytes : ℕ
step_bytes = 24 * input_size + 8

abbrev pub FineStep : Turn ℕ → Type 0
FineStep t = Good BoundedRead step_bytes answer_area t

-- there is room for both, and most rules need no more
pub fine : {t : Turn ℕ} (b a : ℕ) → b ≤ arrival_bytes + step_bytes → a ≤ arrival_area + answer_area → Good BoundedRead b a t → Fine t
fine b a p q h = let w = rubbing_room in let v = answer_room in roomier b a (omega arith) (omega arith) h
