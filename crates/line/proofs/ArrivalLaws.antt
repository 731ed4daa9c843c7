-- What the rules of an arrival leave of the line.
use mathlib.Core.Path.{◌≡◌, refl, sym, ap, ◌∙◌, subst}
use Prim.Native.Nat.{ℕ, ◌+◌, ◌%◌, ◌≤◌, ◌<◌, min}
use native.Mathlib.Omega.{arith}
use lib.Dec.{eqb}
use lib.ListN.{length}
use lib.Seq.{set_out}
use borrow.Author.Tests.{eq-eqb, ne_eqb}
use Rattle.rules.specs.Numbers.{type_ahead_size, top_dropped}
use mathlib.Core.Bool.{true, false, ◌&&◌}
use mathlib.Core.List.{List, []}
use mathlib.Core.Option as math
use Rattle.std.specs.Prelude.{Option, Some, None, is_some}
use Rattle.rules.specs.State as state
use Rattle.rules.specs.State.{with_typed, with_terminal, with_dropped}
use Rattle.rules.specs.Arrival as rules
use Rattle.rules.specs.Turns.{Rule, changes}
use Rattle.line.specs.declared.Key.{Key}
use Rattle.line.specs.declared.Terminal.{Terminal}
use Rattle.line.specs.declared.Flow.{Flow}
use Rattle.line.specs.declared.Line.{Line}
use Rattle.line.specs.declared.Reading.{Reading}
use Rattle.line.specs.declared.Typed.{Typed}
use Rattle.line.specs.declared.Work.{Work}
use Rattle.line.specs.View.{view, terminal_of, key_of, pending_of, reading_of, keys_of, token_of}
use Rattle.line.specs.With.{GoesOn, on_terminal, on_typed, on_flow, on_keys}
use Rattle.line.specs.KeyArray.{stored}
use Rattle.line.specs.TokenChanges.{emptied}
use Rattle.line.specs.ReadChanges.{idling}
use Rattle.line.specs.Promise.{Progress, on, Does}
use Rattle.line.proofs.KeyArrays.{stored_keys}
use Rattle.line.proofs.Answers.{under_way}
use Rattle.line.proofs.Turns.{changes_does}
use Rattle.line.proofs.FlowChanges.{goes_does, goes_as}

-- a pending read with idle at 0
abbrev pub rested : Option Reading → Option Reading
rested None = None
rested (Some r) = Some (idling 0 r)

rest_view : (l : Line) (p : Option Reading) → pending_of l (rested p) ≡ rules.idle_again (pending_of l p)
unfolding rules.idle_again
rest_view l None = refl
rest_view l (Some r) = refl

-- the flow with one key more waiting, and this read pending
abbrev pub kept : Option Reading → Flow → Flow
kept p f =
    let t = f.typed in
    record {
      terminal = f.terminal;
      typed = record { keys_len = t.keys_len + 1; token = t.token; token_len = t.token_len };
      pending = p;
    }

module _ (w : Work) (room : w.flow.typed.keys_len < type_ahead_size) {f : Flow} {p : Option Reading} {at sent : ℕ} (rests : p ≡ rested w.flow.pending)
    (flow : f ≡ kept p w.flow) (same_at : at ≡ w.at) (same_sent : sent ≡ w.sent) where
  pub keeps_does : (k : Key) (l : Line) → length l.keys ≡ type_ahead_size → (t m : List ℕ) →
      Does (rules.keeps (key_of k).quoted (key_of k).char) (on l w) t m (under_way (on_flow f (stored k w.flow l)) at sent) t m
  unfolding rules.keeps token_of
  keeps_does k l size t m =
      let f = w.flow in
      rw (flow, same_at, same_sent)
      (changes_does t m _
      (λ i. record {
        host = (view l).host;
        terminal = terminal_of f.terminal;
        typed = record { type_ahead = stored_keys f.typed.keys_len k l.keys (omega arith) i; token = token_of f.typed };
        pending_read = (ap (pending_of l) rests ∙ rest_view l f.pending) i;
      })
      refl refl)

-- A call goes on with another terminal.
pub terminal_does : (w : Work) (x : Terminal) (f : state.Terminal → state.Terminal) → terminal_of x ≡ f (terminal_of w.flow.terminal) → (l : Line) (t m : List ℕ) →
    Does (changes (λ s. with_terminal (f s.terminal) s)) (on l w) t m (under_way (on_flow (on_terminal x w.flow) l) w.at w.sent) t m
terminal_does w x f e l t m =
    changes_does t m (λ s. with_terminal (f s.terminal) s) (λ i. with_terminal (e i) (view (on_flow w.flow l))) refl refl

-- one key more dropped
abbrev with_count : ℕ → Terminal → Terminal
with_count n t =
    record {
      screen = t.screen;
      discarding = t.discarding;
      quoting = t.quoting;
      locked = t.locked;
      skip_linefeed = t.skip_linefeed;
      dropped = n;
    }

pub count_does : (w : Work) (n : ℕ) → n ≡ min top_dropped (w.flow.terminal.dropped + 1) → (l : Line) (t m : List ℕ) →
    Does rules.counts_dropped (on l w) t m (under_way (on_flow (on_terminal (with_count n w.flow.terminal) w.flow) l) w.at w.sent) t m
unfolding rules.counts_dropped
count_does w n e l t m =
    terminal_does w (with_count n w.flow.terminal) (λ x. with_dropped (min top_dropped (x.dropped + 1)) x)
    (λ i. with_dropped (e i) (terminal_of w.flow.terminal)) l t m

-- neither keys nor a token
pub emptied_does : (w : Work) {v : Work} {next : Typed} → GoesOn (on_typed next w.flow) w v → next ≡ emptied w.flow.typed → (l : Line) (t m : List ℕ) →
    Does (changes (with_typed [] [])) (on l w) t m (on l v) t m
unfolding keys_of token_of
emptied_does w h e l t m = goes_does w l (with_typed [] []) (goes_as (ap (λ n. on_typed n w.flow) e) h) refl t m

-- A rule that looks whether a read is pending.
module _ (f : math.Option (state.Reading ℕ) → Rule ℕ) (l : Line) {pending : Option Reading} {w v : Progress} {t t' m m' : List ℕ} where
  pub pending_does : {r : Reading} → pending ≡ Some r → Does (f (math.some (reading_of l r))) w t m v t' m' → Does (f (pending_of l pending)) w t m v t' m'
  pending_does e h = rw e h

  pub idle_does : pending ≡ None → Does (f math.none) w t m v t' m' → Does (f (pending_of l pending)) w t m v t' m'
  idle_does e h = rw e h

pub passes_is : (l : Line) (pending : Option Reading) → rules.are_controls_off (pending_of l pending) ≡ is_some pending && eqb l.terms.disables 3
unfolding rules.are_controls_off
passes_is l (Some r) = refl
passes_is l None = refl

-- The out-of-band field of an attribute that was read.
module _ {a b : ℕ} (k : ℕ) (e : a ≡ b) where
  pub band_is : a % 4 ≡ k → eqb (b % 4) k ≡ true
  band_is h = eq-eqb (b % 4) k (rw (← e) h)

  pub band_not : (a % 4 ≡ k → ⊥) → eqb (b % 4) k ≡ false
  band_not h = ne_eqb (b % 4) k (rw (← e) h)

-- no room in the array: the key that is dropped changes nothing there
pub dropped_key : {p : Rule ℕ} {w : Progress} (f : Flow) (v : Work) {t t' m m' : List ℕ} (k : Key) (l : Line) → length l.keys ≤ f.typed.keys_len →
    Does p w t m (on l v) t' m' → Does p w t m (on (stored k f l) v) t' m'
dropped_key {p} {w} f v {t} {t'} {m} {m'} k l out d =
    subst (λ keys. Does p w t m (on (on_keys keys l) v) t' m') (sym (set_out l.keys f.typed.keys_len k out)) d
