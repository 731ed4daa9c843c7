-- An act that is done: from what it does to the flow and the text to what the rules do; and the answer of a call whose acts are done.
use mathlib.Core.Path.{◌≡◌, refl, sym, ap, ◌∙◌, subst}
use Prim.Native.Nat.{ℕ, ◌<◌}
use mathlib.Core.List.{List, [], ◌∷◌}
use types.Run.{OneOf, miss}
use denote.Enum.Declared.{tag_of}
use lib.ListN.{length}
use borrow.Author.Tests.{lt-ltb}
use mathlib.Core.Bool.{Bool, true, false, not}
use Rattle.std.specs.Prelude.{Option, Some, None}
use Rattle.rules.specs.Choice.{pick, first_row_answer, within, joined}
use Rattle.rules.specs.Turns.{Rule, still, ◌then◌}
use Rattle.rules.specs.Area.{puts}
use Rattle.rules.specs.Numbers.{input_size, type_ahead_size, small_area}
use Rattle.rules.specs.State.{codes}
use Rattle.rules.specs.Arrival.{arrives}
use Rattle.rules.specs.Steps.{steps}
use Rattle.rules.specs.Messages.Layout.{byte_values}
use Rattle.rules.specs.Messages.Codec as codec
use Rattle.rules.specs.Messages.Codec.{read, sound_length}
use Rattle.rules.specs.Calls as rules
use Rattle.rules.specs.Calls.{are_roomy, is_lent, refusals, received, does, keystroke, answers, message_bytes}
use Rattle.rules.specs.Bounds as bounds
use Rattle.rules.specs.Bounds.{is_byte_event}
use Rattle.rules.proofs.Bounds.Calls.{arrives_bounded}
use Rattle.rules.proofs.Choice.{row_applies}
use Rattle.rules.proofs.Outcomes.{refused-sound}
use Rattle.line.specs.declared.Key.{Key}
use Rattle.line.specs.declared.Line.{Line}
use Rattle.line.specs.declared.Reading.{Reading}
use Rattle.line.specs.declared.Terms.{Terms}
use Rattle.line.specs.declared.Work.{Work}
use Rattle.line.specs.declared.acts.Act.{Act}
use Rattle.line.specs.declared.acts.Act.TheVariants.{Nothing, Stores, StoresQuoted, SendsOutOfBand, ClearsAtOnce, Quotes, Clears, FlipsDiscard}
use Rattle.line.specs.declared.acts.Act.TheVariants.{TakesToken, Takes, TimesOut, Idles, Obeys}
use Rattle.line.specs.declared.events.HostMessage.{HostMessage}
use Rattle.line.specs.View.{view}
use Rattle.line.specs.Refusals.{row_of}
use Rattle.line.specs.Answers.{Answers}
use Rattle.line.specs.declared.Answer.{Answer}
use Rattle.line.specs.Bounded.{Counted, CountedFlow, Bounded}
use Rattle.line.specs.With.{on_flow, on_keys, lent}
use Rattle.line.specs.KeyArray.{keys_after}
use Rattle.line.specs.Host.{Accepted}
use Rattle.line.specs.ReadChanges.{HasRoom}
use Rattle.line.specs.Promise.{Progress, on, Does}
use Rattle.line.specs.Acts.{act_rule, for_pending, IsPending, CanTakeKey, event_kinds_of, Ready, Doable, Done, Meets}
use Rattle.line.specs.contracts.acts.Act.{the_type}
use Rattle.line.proofs.ReceivedMessage.{true-false}
use Rattle.line.proofs.KeyArrays.{after_length}
use Rattle.line.proofs.Answers.{under_way, work_on, begun, answered, refused, cramped}
use Rattle.line.proofs.Turns.{then_does, still_does}
use Rattle.line.proofs.HostAccepted.{startables}
use Rattle.line.proofs.ActChoice.{act_does}

-- An act by its case.
module _ (s : List ℕ) (t : Terms) (l : Line) (w r : Work) {text a m text' a' m' : List ℕ} {x y : Act} where
  pub done_as : x ≡ y → Done s y t l w text a m r text' a' m' → Done s x t l w text a m r text' a' m'
  done_as e h = subst (λ z. Done s z t l w text a m r text' a' m') (sym e) h

-- acts other than none
abbrev Moves : Act → Type 0
Moves Nothing = ⊥
Moves (Stores c) = Unit {0}
Moves (StoresQuoted c) = Unit {0}
Moves (SendsOutOfBand c) = Unit {0}
Moves (ClearsAtOnce c) = Unit {0}
Moves Quotes = Unit {0}
Moves Clears = Unit {0}
Moves FlipsDiscard = Unit {0}
Moves TakesToken = Unit {0}
Moves (Takes k) = Unit {0}
Moves TimesOut = Unit {0}
Moves (Idles idle) = Unit {0}
Moves (Obeys m) = Unit {0}

pub moved : {x y : Act} → x ≡ y → Moves y → x ≡ Nothing → ⊥
moved e m n = subst Moves (sym e ∙ n) m

-- the arms that an event's method leaves over
abbrev key_rest : List ℕ
key_rest = 0 ∷ 8 ∷ 9 ∷ 10 ∷ 11 ∷ 12 ∷ []

abbrev step_rest : List ℕ
step_rest = 0 ∷ 1 ∷ 2 ∷ 3 ∷ 4 ∷ 5 ∷ 6 ∷ 7 ∷ 11 ∷ 12 ∷ []

abbrev tick_rest : List ℕ
tick_rest = 0 ∷ 1 ∷ 2 ∷ 3 ∷ 4 ∷ 5 ∷ 6 ∷ 7 ∷ 8 ∷ 9 ∷ 12 ∷ []

abbrev host_rest : List ℕ
host_rest = 0 ∷ 1 ∷ 2 ∷ 3 ∷ 4 ∷ 5 ∷ 6 ∷ 7 ∷ 8 ∷ 9 ∷ 10 ∷ 11 ∷ []

-- an act that an event may meet and for which its method has no arm is none
pub record Rest (a : Act) : Type 0 where
  pub key : (event_kinds_of a).key ≡ true → OneOf key_rest (tag_of the_type a) → a ≡ Nothing
  pub step : (event_kinds_of a).step ≡ true → OneOf step_rest (tag_of the_type a) → a ≡ Nothing
  pub tick : (event_kinds_of a).tick ≡ true → OneOf tick_rest (tag_of the_type a) → a ≡ Nothing
  pub host : (event_kinds_of a).host ≡ true → OneOf host_rest (tag_of the_type a) → a ≡ Nothing

never : {A : Type 0} → false ≡ true → A
never e = absurd (true-false (sym e))

foreign : {A B : Type 0} → false ≡ true → A → B
foreign e a = never e

pub rest : (a : Act) → Rest a
rest Nothing = record { key = λ k h. refl; step = λ k h. refl; tick = λ k h. refl; host = λ k h. refl }
rest (Stores c) = record { key = λ k h. absurd (miss key_rest 1 tt h); step = foreign; tick = foreign; host = foreign }
rest (StoresQuoted c) = record { key = λ k h. absurd (miss key_rest 2 tt h); step = foreign; tick = foreign; host = foreign }
rest (SendsOutOfBand c) = record { key = λ k h. absurd (miss key_rest 3 tt h); step = foreign; tick = foreign; host = foreign }
rest (ClearsAtOnce c) = record { key = λ k h. absurd (miss key_rest 4 tt h); step = foreign; tick = foreign; host = foreign }
rest Quotes = record { key = λ k h. absurd (miss key_rest 5 tt h); step = foreign; tick = foreign; host = foreign }
rest Clears = record { key = λ k h. absurd (miss key_rest 6 tt h); step = foreign; tick = foreign; host = foreign }
rest FlipsDiscard = record { key = λ k h. absurd (miss key_rest 7 tt h); step = foreign; tick = foreign; host = foreign }
rest TakesToken = record { key = foreign; step = λ k h. absurd (miss step_rest 8 tt h); tick = foreign; host = foreign }
rest (Takes j) = record { key = foreign; step = λ k h. absurd (miss step_rest 9 tt h); tick = foreign; host = foreign }
rest TimesOut = record { key = foreign; step = λ k h. absurd (miss step_rest 10 tt h); tick = λ k h. absurd (miss tick_rest 10 tt h); host = foreign }
rest (Idles idle) = record { key = foreign; step = foreign; tick = λ k h. absurd (miss tick_rest 11 tt h); host = foreign }
rest (Obeys m) = record { key = foreign; step = foreign; tick = foreign; host = λ k h. absurd (miss host_rest 12 tt h) }

-- where no read is pending an act of a step or a tick does nothing, and one that takes a token or a key is not chosen
pub record Unread (s : List ℕ) (t : Terms) (l : Line) (w : Work) (text x m : List ℕ) (a : Act) : Type 0 where
  pub step : (event_kinds_of a).step ≡ true → Doable s w.flow t a → Done s a t l w text x m w text x m
  pub tick : (event_kinds_of a).tick ≡ true → Done s a t l w text x m w text x m

none_pending : (F : Reading → Rule ℕ) {p : Option Reading} → p ≡ None → (w : Progress) (x m : List ℕ) → Does (for_pending F p) w x m w x m
none_pending F e w x m = rw e (still_does w x m)

module _ (s : List ℕ) (t : Terms) (l : Line) (w : Work) (text x m : List ℕ) (e : w.flow.pending ≡ None) where
  pub unread : (a : Act) → Unread s t l w text x m a
  unread Nothing = record { step = λ k d size p. still_does _ x m; tick = λ k size p. still_does _ x m }
  unread (Stores c) = record { step = never; tick = never }
  unread (StoresQuoted c) = record { step = never; tick = never }
  unread (SendsOutOfBand c) = record { step = never; tick = never }
  unread (ClearsAtOnce c) = record { step = never; tick = never }
  unread Quotes = record { step = never; tick = never }
  unread Clears = record { step = never; tick = never }
  unread FlipsDiscard = record { step = never; tick = never }
  unread TakesToken = record { step = λ k d. absurd (subst (IsPending (HasRoom t)) e d); tick = never }
  unread (Takes j) = record { step = λ k d. absurd (subst (IsPending (λ r. CanTakeKey r w.flow t)) e d); tick = never }
  unread TimesOut = record { step = λ k d size p. none_pending _ e _ x m; tick = λ k size p. none_pending _ e _ x m }
  unread (Idles idle) = record { step = never; tick = λ k size p. none_pending _ e _ x m }
  unread (Obeys h) = record { step = never; tick = never }

-- a rule for the read that is pending
pub pending_done : (F : Reading → Rule ℕ) {p : Option Reading} {r : Reading} → p ≡ Some r → {w v : Progress} {x m x' m' : List ℕ} →
    Does (F r) w x m v x' m' → Does (for_pending F p) w x m v x' m'
pending_done F e d = rw e d

-- what is ready can be done
pub doable : (s : List ℕ) (l : Line) (a : Act) → Ready s l a → Doable s l.flow l.terms a
doable s l Nothing r = tt
doable s l (Stores c) r = r
doable s l (StoresQuoted c) r = r
doable s l (SendsOutOfBand c) r = tt
doable s l (ClearsAtOnce c) r = tt
doable s l Quotes r = tt
doable s l Clears r = tt
doable s l FlipsDiscard r = tt
doable s l TakesToken r = r
doable s l (Takes k) r = r
doable s l TimesOut r = tt
doable s l (Idles idle) r = tt
doable s l (Obeys m) r = startables l s m r

-- nothing done leaves the areas
still_areas : {w r : Progress} {t t' m m' : List ℕ} → Does still w t m r t' m' → (t' ≡ t) × (m' ≡ m)
unfolding still message_bytes joined puts
still_areas d = (ap (λ x. x.area) d.shows, ap (λ x. x.area) d.sends)

-- no message of no bytes is accepted
none_accepted : (l : Line) (m : HostMessage) → Accepted l [] m → ⊥
unfolding received refusals sound_length within
none_accepted l m a =
    let short : sound_length 0 ≡ false = refl in
    refused-sound (sym (row_applies codec.refused (read []) _ _ (ap not short)) ∙ a.taken)

-- without a message, what an act does to the flow is all that it does but for the keys
keyed_does : (l : Line) (f : CountedFlow l.flow) (a : Act) (r : Work) → Ready [] l a → length l.keys ≡ type_ahead_size → {at sent : ℕ} {t m text' t' m' : List ℕ} →
    Done [] a l.terms l (work_on l f at sent) l.text t m r text' t' m' →
    Does (act_rule [] l a) (under_way l at sent) t m (on (lent l.terms text' (on_keys (keys_after a l.flow.typed.keys_len l.keys) l)) r) t' m'
keyed_does l f Nothing r k size d = d size tt
keyed_does l f (Stores c) r k size d = d size tt
keyed_does l f (StoresQuoted c) r k size d = d size tt
keyed_does l f (SendsOutOfBand c) r k size d = d size tt
keyed_does l f (ClearsAtOnce c) r k size d = d size tt
keyed_does l f Quotes r k size d = d size tt
keyed_does l f Clears r k size d = d size tt
keyed_does l f FlipsDiscard r k size d = d size tt
keyed_does l f TakesToken r k size d = d size tt
keyed_does l f (Takes j) r k size d = d size tt
keyed_does l f TimesOut r k size d = d size tt
keyed_does l f (Idles idle) r k size d = d size tt
keyed_does l f (Obeys m) r k size d = absurd (none_accepted l m k)

-- the line with keys moved, another text and another flow is counted
done_counted : (l : Line) (a : Act) (text : List ℕ) (r : Work) → Counted l → length text ≡ input_size →
    Counted (on (lent l.terms text (on_keys (keys_after a l.flow.typed.keys_len l.keys) l)) r).line
done_counted l a text r c size =
    record {
      table = c.table;
      keys = after_length a l.flow.typed.keys_len l.keys ∙ c.keys;
      text = size;
      set = c.set;
      last_set = c.last_set;
      prompt = c.prompt;
      flow = r.counted;
    }

-- What a call has done by an act that brings no message, or by several: in areas that are large enough the rule, in smaller ones nothing.
pub record Acted (rule : Rule ℕ) (roomy : Bool) (w : Progress) (t m : List ℕ) (r : Progress) (t' m' : List ℕ) : Type 0 where
  pub done : roomy ≡ true → Does rule w t m r t' m'
  pub none : roomy ≡ false → (r ≡ w) × ((t' ≡ t) × (m' ≡ m))
  pub counted : Counted r.line

-- the act is done, and the keys are moved beside
module _ {rule : Rule ℕ} (l : Line) (at sent : ℕ) (c : Counted l) {roomy : Bool} {a : Act} (h : roomy ≡ true → Meets rule [] l a)
    (none : roomy ≡ false → a ≡ Nothing) where
  asks : (x : Bool) → roomy ≡ x → Doable [] l.flow l.terms a
  asks true y = doable [] l a (h y).ready
  asks false n = subst (Doable [] l.flow l.terms) (sym (none n)) tt

  pub act_doable : Doable [] l.flow l.terms a
  act_doable = asks roomy refl

  module _ {t m : List ℕ} (r : Work) (keys' : List Key) (text' t' m' : List ℕ) (k : keys' ≡ keys_after a l.flow.typed.keys_len l.keys)
      (full : length text' ≡ input_size) {f : CountedFlow l.flow} (d : Done [] a l.terms l (work_on l f at sent) l.text t m r text' t' m')
      (same : a ≡ Nothing → (r ≡ work_on l f at sent) × (text' ≡ l.text)) where
    abbrev after : List Key → List ℕ → Work → Progress
    after keys text w = on (lent l.terms text (on_keys keys l)) w

    undone : a ≡ Nothing → (after keys' text' r ≡ under_way l at sent) × ((t' ≡ t) × (m' ≡ m))
    undone n =
        let keys : keys' ≡ l.keys = k ∙ ap (λ z. keys_after z l.flow.typed.keys_len l.keys) n in
        let nothing = subst (λ z. Done [] z l.terms l (work_on l f at sent) l.text t m r text' t' m') n d c.keys in
        (λ i. after (keys i) ((same n).1 i) ((same n).0 i), still_areas (nothing tt))

    pub act_done : Acted rule roomy (under_way l at sent) t m (after keys' text' r) t' m'
    act_done =
        record {
          done = λ y.
              subst (λ z. Does rule (under_way l at sent) t m (after z text' r) t' m') (sym k) (act_does (h y) (keyed_does l f a r (h y).ready c.keys d));
          none = λ n. undone (none n);
          counted = subst (λ z. Counted (after z text' r).line) (sym k) (done_counted l a text' r c full);
        }

-- one act behind another
pub acted_then : {f g : Rule ℕ} {roomy : Bool} {w v r : Progress} {t t₁ t₂ m m₁ m₂ : List ℕ} → Acted f roomy w t m v t₁ m₁ → Acted g roomy v t₁ m₁ r t₂ m₂ →
    Acted (f then g) roomy w t m r t₂ m₂
acted_then a b =
    record {
      done = λ y. then_does (a.done y) (b.done y);
      none = λ n.
          let x = a.none n in
          let y = b.none n in
          (y.0 ∙ x.0, (y.1.0 ∙ x.1.0, y.1.1 ∙ x.1.1));
      counted = b.counted;
    }

-- The answer to a call whose acts are done.
module _ (e : rules.Event ℕ) (l : Line) (b : Bounded l) (t m : List ℕ) (rule : Rule ℕ) (event : answers codes e (view l) ≡ does rule (view l))
    (byte : is_byte_event e ≡ true) (lends : is_lent e ≡ true) {roomy : Bool} (size : roomy ≡ are_roomy (length t) (length m))
    {r : Progress} {t' m' : List ℕ} (a : Acted rule roomy (begun l) t m r t' m') where
  abbrev told : Progress → ℕ → Answer
  told w n = record { line = w.line; number = n; terminal = w.at; messages = w.sent }

  answers_by : (x : Bool) → roomy ≡ x → Answers e l t m (told r (row_of x)) t' m'
  unfolding row_of first_row_answer pick
  answers_by true y = answered e l t m b rule event byte (sym size ∙ y) r t' m' (a.done y) a.counted
  answers_by false y =
      let n = a.none y in
      subst (λ z. Answers e l t m (told r small_area) z m') (sym n.1.0)
      (subst (λ z. Answers e l t m (told r small_area) t z) (sym n.1.1)
      (refused e l t m small_area b (cramped e l t m lends (sym size ∙ y)) (ap (λ w. told w small_area) n.0)))

  pub acted_answers : {n : ℕ} → n ≡ row_of roomy → Answers e l t m (told r n) t' m'
  acted_answers k = rw k (answers_by roomy refl)

-- A keystroke: the act of its arrival, and behind it the act of its step, which is chosen at the line that arrival left.
module _ (code : ℕ) (byte : code < byte_values) (l : Line) (b : Bounded l) (t m : List ℕ) {roomy : Bool} {arrival : Act}
    (meets : roomy ≡ true → Meets (arrives codes code) [] l arrival) (none : roomy ≡ false → arrival ≡ Nothing)
    (w : Work) (keys₁ : List Key) (t₁ m₁ : List ℕ) (k : keys₁ ≡ keys_after arrival l.flow.typed.keys_len l.keys)
    {f : CountedFlow l.flow} (d : Done [] arrival l.terms l (work_on l f 0 0) l.text t m w l.text t₁ m₁) (same : arrival ≡ Nothing → w ≡ work_on l f 0 0) where
  abbrev left : Line
  left = on_flow w.flow (on_keys keys₁ l)

  arrived : Acted (arrives codes code) roomy (begun l) t m (under_way left w.at w.sent) t₁ m₁
  arrived = act_done l 0 0 b.counted meets none w keys₁ l.text t₁ m₁ k b.counted.text d (λ n. (same n, refl))

  left_bounded : roomy ≡ true → Bounded left
  left_bounded y =
      record { state = subst bounds.Bounded (sym (arrived.done y).state) (arrives_bounded code (view l) byte b.state); counted = arrived.counted }

  module _ {act : Act} (meets₂ : roomy ≡ true → Bounded left → Meets (steps codes) [] left act) (none₂ : roomy ≡ false → act ≡ Nothing) where
    pub keystroke_doable : Doable [] w.flow l.terms act
    keystroke_doable = act_doable left w.at w.sent arrived.counted (λ y. meets₂ y (left_bounded y)) none₂

    pub keystroke_answers : (size : roomy ≡ are_roomy (length t) (length m)) (r : Work) (keys₂ : List Key) (text₂ t₂ m₂ : List ℕ) →
        keys₂ ≡ keys_after act w.flow.typed.keys_len keys₁ → length text₂ ≡ input_size →
        Done [] act l.terms left w l.text t₁ m₁ r text₂ t₂ m₂ → (act ≡ Nothing → (r ≡ w) × (text₂ ≡ l.text)) → {n : ℕ} → n ≡ row_of roomy →
        Answers (rules.key code) l t m
        (record { line = on_flow r.flow (lent l.terms text₂ (on_keys keys₂ l)); number = n; terminal = r.at; messages = r.sent }) t₂ m₂
    unfolding answers keystroke is_byte_event
    keystroke_answers size r keys₂ text₂ t₂ m₂ k₂ full₂ d₂ same₂ =
        acted_answers (rules.key code) l b t m (keystroke codes code) refl (lt-ltb code byte_values byte) refl size
        (acted_then arrived
        (act_done left w.at w.sent arrived.counted (λ y. meets₂ y (left_bounded y)) none₂ r keys₂ text₂ t₂ m₂ k₂ full₂ d₂ same₂))
