-- Which act an event meets.
use mathlib.Core.Path.{◌≡◌, refl, sym, ap, ◌∙◌, subst}
use Prim.Native.Nat.{ℕ}
use mathlib.Core.Bool.{Bool, true, false}
use mathlib.Core.List.{List}
use native.Mathlib.Omega.{arith}
use mathlib.Core.Option.{Option, none, some}
use Rattle.std.specs.Prelude.{Some, None}
use Rattle.rules.specs.Choice.{pick}
use Rattle.rules.specs.State as rules
use Rattle.rules.specs.Turns.{Fate, Rule, tells, changes, behind, ◌then◌}
use Rattle.rules.specs.Area.{puts, spot}
use Rattle.rules.specs.Calls.{message_bytes}
use Rattle.line.specs.declared.Line.{Line}
use Rattle.line.specs.declared.Reading.{Reading}
use Rattle.line.specs.declared.acts.Act.{Act}
use Rattle.line.specs.declared.acts.Act.TheVariants.{Nothing, Obeys}
use Rattle.line.specs.declared.events.HostMessage.{HostMessage}
use Rattle.line.specs.declared.events.Event.{Event}
use Rattle.line.specs.declared.events.Lookup.{Lookup}
use Rattle.line.specs.declared.events.Event.TheVariants.{Key, Tick, Step, Host}
use Rattle.line.specs.Events.{LookedUp, is_act_of, event_rule}
use Rattle.line.specs.View.{view, pending_of, reading_of}
use Rattle.line.specs.Promise.{Progress, Does}
use Rattle.line.specs.Acts.{key_taken, takes_key, for_pending, act_rule, Ready, effect_of, Meets}
use Rattle.line.proofs.FlowChanges.{first_at, second_at}

module _ {s : List ℕ} {l : Line} {a : Act} where
  pub met : Ready s l a → Meets (act_rule s l a) s l a
  met h = record { same = refl; ready = h }

  -- A rule that is another one at this line, and one that chooses.
  module _ {rule f : Rule ℕ} where
    pub meets_as : rule (view l) ≡ f (view l) → Meets f s l a → Meets rule s l a
    meets_as e h = record { same = ap effect_of e ∙ h.same; ready = h.ready }

    module _ {test : Bool} (g : Rule ℕ) where
      pub meets_first : rule (view l) ≡ pick test f g (view l) → test ≡ true → Meets f s l a → Meets rule s l a
      meets_first e b h = meets_as (first_at rule f g (view l) e b) h

      pub meets_second : rule (view l) ≡ pick test g f (view l) → test ≡ false → Meets f s l a → Meets rule s l a
      meets_second e b h = meets_as (second_at rule f g (view l) e b) h

  -- the same, behind a key that was taken
  module _ (r : Reading) (rule f : Rule ℕ) where
    pub meets_behind : rule (key_taken l r (view l)) ≡ f (key_taken l r (view l)) → Meets (takes_key l r then f) s l a → Meets (takes_key l r then rule) s l a
    unfolding ◌then◌ changes
    meets_behind e h = record { same = ap (λ t. effect_of (behind (takes_key l r (view l)) t)) e ∙ h.same; ready = h.ready }

    module _ {test : Bool} (g : Rule ℕ) where
      pub behind_first_lem : rule (key_taken l r (view l)) ≡ pick test f g (key_taken l r (view l)) → test ≡ true →
          Meets (takes_key l r then f) s l a → Meets (takes_key l r then rule) s l a
      behind_first_lem e b h = meets_behind (first_at rule f g (key_taken l r (view l)) e b) h

      pub behind_second : rule (key_taken l r (view l)) ≡ pick test g f (key_taken l r (view l)) → test ≡ false →
          Meets (takes_key l r then f) s l a → Meets (takes_key l r then rule) s l a
      behind_second e b h = meets_behind (second_at rule f g (key_taken l r (view l)) e b) h

  -- A rule that looks whether a read is pending.
  module _ (F : Option (rules.Reading ℕ) → Rule ℕ) where
    pub meets_pending : {r : Reading} → l.flow.pending ≡ Some r → Meets (F (some (reading_of l r))) s l a → Meets (λ v. F v.pending_read v) s l a
    meets_pending e h = meets_as (ap (λ p. F (pending_of l p) (view l)) e) h

    pub meets_none : l.flow.pending ≡ None → Meets (F none) s l a → Meets (λ v. F v.pending_read v) s l a
    meets_none e h = meets_as (ap (λ p. F (pending_of l p) (view l)) e) h

  -- a rule for the read that is pending
  pub meets_read : (F : Reading → Rule ℕ) {r : Reading} → l.flow.pending ≡ Some r → Meets (for_pending F l.flow.pending) s l a → Meets (F r) s l a
  meets_read F e h = meets_as (ap (λ p. for_pending F p (view l)) (sym e)) h

  -- what became of keys is not seen
  pub meets_told : {f : Rule ℕ} (fs : List (Fate ℕ)) → Meets f s l a → Meets (tells fs then f) s l a
  unfolding ◌then◌ behind tells effect_of message_bytes
  meets_told fs h = record { same = h.same; ready = h.ready }

-- An act that is done is the rule that meets it.
module _ {rule : Rule ℕ} {s : List ℕ} {w r : Progress} {a : Act} {t t' m m' : List ℕ} where
  pub act_does : Meets rule s w.line a → Does (act_rule s w.line a) w t m r t' m' → Does rule w t m r t' m'
  unfolding effect_of
  act_does h d =
      let e = h.same in
      record {
        state = d.state ∙ ap (λ x. x.state) (sym e);
        shows = d.shows ∙ ap (λ x. puts x.bytes (spot t w.at)) (sym e);
        sends = d.sends ∙ ap (λ x. puts x.messages (spot m w.sent)) (sym e);
        terminal_length = d.terminal_length;
        messages_length = d.messages_length;
      }

-- An event, by its case.
module _ (s : List ℕ) (l : Line) {a : Act} {e f : Event} where
  pub event_meets : e ≡ f → LookedUp s l e → (LookedUp s l f → Meets (event_rule s f) s l a) → Meets (event_rule s e) s l a
  event_meets h b k = subst (λ x. Meets (event_rule s x) s l a) (sym h) (k (subst (LookedUp s l) h b))

pub kind_as : (a : Act) {e f : Event} → e ≡ f → is_act_of f a ≡ true → is_act_of e a ≡ true
kind_as a h k = ap (λ x. is_act_of x a) h ∙ k

pub host_kind : {e : Event} (m : HostMessage) → e ≡ Host m → is_act_of e (Obeys m) ≡ true
host_kind m h = kind_as (Obeys m) h refl

-- none is an act of every event
pub none_of : (e : Event) → is_act_of e Nothing ≡ true
none_of (Key c attribute initiated) = refl
none_of (Tick held) = refl
none_of (Step lookup) = refl
none_of (Host m) = refl

-- events of different cases are different
pub key_host : {c attribute : ℕ} {initiated : Bool} {m : HostMessage} → Key c attribute initiated ≡ Host m → ⊥
key_host e = let z : ◌≡◌ {A = ℕ} 0 1 = cc in omega arith

pub tick_host : {held : Bool} {m : HostMessage} → Tick held ≡ Host m → ⊥
tick_host e = let z : ◌≡◌ {A = ℕ} 0 1 = cc in omega arith

pub step_host : {lookup : Lookup} {m : HostMessage} → Step lookup ≡ Host m → ⊥
step_host e = let z : ◌≡◌ {A = ℕ} 0 1 = cc in omega arith

pub event_same : {m n : HostMessage} → Host m ≡ Host n → m ≡ n
event_same e = cc
