-- What is known of an accepted message, by its type.
use mathlib.Core.Path.{◌≡◌, refl, sym, ap, ◌∙◌, subst}
use Prim.Native.Nat.{ℕ}
use native.Mathlib.Omega.{arith}
use mathlib.Core.Bool.{Bool, true}
use mathlib.Core.List.{List, [], ◌∷◌}
use lib.Dec.{leb}
use types.Run.{OneOf, miss}
use denote.Enum.Declared.{tag_of}
use Rattle.rules.specs.Choice.{pick}
use Rattle.rules.specs.Messages.Forms as forms
use Rattle.rules.specs.Messages.Codec as codec
use Rattle.rules.specs.State.{State}
use Rattle.rules.specs.Messages.Codec.{defined_fields}
use Rattle.rules.specs.Calls.{passes_test, is_carried_by, carries_questions}
use Rattle.rules.proofs.Bounds.Sent.{Fit, read_sent}
use Rattle.rules.proofs.Bounds.Received as received
use Rattle.rules.proofs.Bounds.Calls.{received-sound}
use Rattle.fields.specs.declared.Span.{Span}
use Rattle.message.specs.declared.Message.{Message}
use Rattle.message.specs.declared.Message.TheVariants as message
use Rattle.message.specs.declared.StartReadFields.{StartReadFields}
use Rattle.fields.specs.Spans.{span_of}
use Rattle.message.specs.Found.{start_read_in, held_in}
use Rattle.characteristics.specs.Lists.{questions_in}
use Rattle.characteristics.proofs.Held.{held_questions}
use Rattle.line.specs.declared.Line.{Line}
use Rattle.line.specs.declared.Terms.{Terms}
use Rattle.std.proofs.Common.{Some, None}
use Rattle.line.specs.contracts.events.HostMessage.{the_type as host_type}
use Rattle.line.specs.declared.events.HostMessage.{HostMessage}
use Rattle.line.specs.declared.events.HostMessage.TheVariants.{Initiate, StartRead, Unread, ClearInput, Write, ReadCharacteristics, Characteristics, CheckInput}
use Rattle.line.specs.View.{view}
use Rattle.line.specs.StartRead.{Startable}
use Rattle.line.specs.Host.{message_of, host_message_of, Accepted, flow_rule, StartableMessage, Prompts, SetBy, Reported}
use Rattle.line.specs.Promise.{Progress, Does}

some_same : {g h : HostMessage} → Some g ≡ Some h → g ≡ h
some_same e = cc

none_some : {h : HostMessage} → None ≡ Some h → ⊥
none_some e = let z : ◌≡◌ {A = ℕ} 0 1 = cc in omega arith

held_same : {x y : forms.Message ℕ} → codec.message x ≡ codec.message y → x ≡ y
held_same e = cc

module _ (l : Line) (s : List ℕ) (m : HostMessage) (a : Accepted l s m) (x : forms.Message ℕ) (h : held_in s (message_of m) ≡ codec.message x) where
  same : a.fields ≡ x
  same = held_same (sym a.held ∙ h)

  carried : is_carried_by (view l) x ≡ true
  carried = subst (λ y. is_carried_by (view l) y ≡ true) same (received-sound (view l) s a.fields a.taken).1

  fit : Fit x
  fit = subst Fit same (read_sent s a.fields a.bytes (received-sound (view l) s a.fields a.taken).0).fit

start_known : (l : Line) (s : List ℕ) (f : StartReadFields) → Accepted l s (StartRead f) → Startable s f
unfolding held_in start_read_in is_carried_by pick
start_known l s f a =
    let x = start_read_in s f in
    let k = received.accepted_start_read x refl (carried l s (StartRead f) a x refl) (fit l s (StartRead f) a x refl) in
    record { text = k.text; prompt = k.prompt; within = k.room; largest = k.largest; set = k.set_length }

pub startables : (l : Line) (s : List ℕ) (m : HostMessage) → Accepted l s m → StartableMessage s m
startables l s (Initiate f) a = tt
startables l s (StartRead f) a = start_known l s f a
startables l s (Unread condition) a = tt
startables l s ClearInput a = tt
startables l s (Write f) a = tt
startables l s (ReadCharacteristics p) a = tt
startables l s (Characteristics p) a = tt
startables l s CheckInput a = tt

pub questions_known : (l : Line) (s : List ℕ) (p : Span) → Accepted l s (ReadCharacteristics p) →
    carries_questions (view l) (questions_in (span_of s p)) ≡ true
unfolding is_carried_by pick
questions_known l s p a = carried l s (ReadCharacteristics p) a (questions_in (span_of s p)) (held_questions s p)

-- What a message does to the flow, by what it is found to be.
module _ (s : List ℕ) (l : Line) (t : Terms) (k : Line) {w r : Progress} {a b a' b' : List ℕ} {m n : HostMessage} where
  pub obeys_as : m ≡ n → Prompts t k m → (Prompts t k n → Does (flow_rule s l n) w a b r a' b') → Does (flow_rule s l m) w a b r a' b'
  obeys_as e p h = subst (λ x. Does (flow_rule s l x) w a b r a' b') (sym e) (h (subst (Prompts t k) e p))

-- a message that a host sends is the one that it was taken for
pub host_sends : (m : Message) (h : HostMessage) → host_message_of m ≡ Some h → m ≡ message_of h
host_sends (message.Initiate f) h e = ap message_of (some_same e)
host_sends (message.StartRead f) h e = ap message_of (some_same e)
host_sends (message.Unread condition) h e = ap message_of (some_same e)
host_sends message.ClearInput h e = ap message_of (some_same e)
host_sends (message.Write f) h e = ap message_of (some_same e)
host_sends (message.ReadCharacteristics p) h e = ap message_of (some_same e)
host_sends (message.Characteristics p) h e = ap message_of (some_same e)
host_sends message.CheckInput h e = ap message_of (some_same e)
host_sends (message.ReadData f) h e = absurd (none_some e)
host_sends (message.OutOfBand discard character) h e = absurd (none_some e)
host_sends (message.WriteCompletion lost horizontal vertical) h e = absurd (none_some e)
host_sends (message.DiscardState kept) h e = absurd (none_some e)
host_sends (message.InputCount count) h e = absurd (none_some e)
host_sends (message.InputState nonzero) h e = absurd (none_some e)
host_sends (message.Other kind body) h e = absurd (none_some e)

-- Whether a message is carried, by what it is found to be.
module _ (s : List ℕ) (state : State ℕ) where
  pub carried_as : {m k : HostMessage} {r : Bool} → m ≡ k → (y : forms.Message ℕ) → held_in s (message_of k) ≡ codec.message y → r ≡ is_carried_by state y →
      (x : forms.Message ℕ) → held_in s (message_of m) ≡ codec.message x → r ≡ is_carried_by state x
  carried_as e y h p x g = p ∙ ap (is_carried_by state) (held_same (sym h ∙ ap (λ z. held_in s (message_of z)) (sym e) ∙ g))

  -- types of which everything is carried
  abbrev carried_all : List ℕ
  carried_all = 0 ∷ 2 ∷ 3 ∷ 7 ∷ []

  pub other_carried : (m : HostMessage) → OneOf carried_all (tag_of host_type m) → (x : forms.Message ℕ) → held_in s (message_of m) ≡ codec.message x →
      true ≡ is_carried_by state x
  unfolding held_in is_carried_by pick
  other_carried (Initiate f) h x g = ap (is_carried_by state) (held_same g)
  other_carried (Unread condition) h x g = ap (is_carried_by state) (held_same g)
  other_carried ClearInput h x g = ap (is_carried_by state) (held_same g)
  other_carried CheckInput h x g = ap (is_carried_by state) (held_same g)
  other_carried (StartRead f) h x g = absurd (miss carried_all 1 tt h)
  other_carried (Write f) h x g = absurd (miss carried_all 4 tt h)
  other_carried (ReadCharacteristics p) h x g = absurd (miss carried_all 5 tt h)
  other_carried (Characteristics p) h x g = absurd (miss carried_all 6 tt h)

-- Whether it passes the line's test, which is asked of a Start Read alone.
pub start_passed : (l : Line) (f : StartReadFields) {m : HostMessage} → m ≡ StartRead f → (s : List ℕ) (x : forms.Message ℕ) →
    held_in s (message_of m) ≡ codec.message x → defined_fields x ≡ true → leb f.max_length l.largest_read ≡ passes_test (view l) x
unfolding held_in start_read_in
start_passed l f e s x h d =
    let same = held_same (ap (λ k. held_in s (message_of k)) (sym e) ∙ h) in
    let passes = received.start_passes (view l) (start_read_in s f) refl (subst (λ y. defined_fields y ≡ true) (sym same) d) in
    sym passes ∙ ap (passes_test (view l)) same

module _ (state : State ℕ) where
  abbrev passed_all : List ℕ
  passed_all = 0 ∷ 2 ∷ 3 ∷ 4 ∷ 5 ∷ 6 ∷ 7 ∷ []

  pub other_passed : (m : HostMessage) → OneOf passed_all (tag_of host_type m) → (s : List ℕ) (x : forms.Message ℕ) → held_in s (message_of m) ≡ codec.message x →
      true ≡ passes_test state x
  unfolding held_in passes_test pick
  other_passed (Initiate f) h s x g = ap (passes_test state) (held_same g)
  other_passed (Unread condition) h s x g = ap (passes_test state) (held_same g)
  other_passed ClearInput h s x g = ap (passes_test state) (held_same g)
  other_passed (Write f) h s x g = ap (passes_test state) (held_same g)
  other_passed (ReadCharacteristics p) h s x g = ap (passes_test state) (held_same g)
  other_passed (Characteristics p) h s x g = ap (passes_test state) (held_same g)
  other_passed CheckInput h s x g = ap (passes_test state) (held_same g)
  other_passed (StartRead f) h s x g = absurd (miss passed_all 1 tt h)

-- what no message but some set, and report
abbrev unset : List ℕ
unset = 2 ∷ 3 ∷ 4 ∷ 5 ∷ 7 ∷ []

pub nothing_set : (s : List ℕ) (l : Line) (m : HostMessage) → OneOf unset (tag_of host_type m) → SetBy s m l l
nothing_set s l (Unread condition) h = refl
nothing_set s l ClearInput h = refl
nothing_set s l (Write f) h = refl
nothing_set s l (ReadCharacteristics p) h = refl
nothing_set s l CheckInput h = refl
nothing_set s l (Initiate f) h = absurd (miss unset 0 tt h)
nothing_set s l (StartRead f) h = absurd (miss unset 1 tt h)
nothing_set s l (Characteristics p) h = absurd (miss unset 6 tt h)

abbrev unreported : List ℕ
unreported = 0 ∷ 1 ∷ 2 ∷ 3 ∷ 4 ∷ 6 ∷ 7 ∷ []

pub nothing_reported : (s : List ℕ) (l : Line) (m : HostMessage) (a : List ℕ) → OneOf unreported (tag_of host_type m) → Reported s m l a 0 a
nothing_reported s l (Initiate f) a h = record { nothing = refl; area = refl }
nothing_reported s l (StartRead f) a h = record { nothing = refl; area = refl }
nothing_reported s l (Unread condition) a h = record { nothing = refl; area = refl }
nothing_reported s l ClearInput a h = record { nothing = refl; area = refl }
nothing_reported s l (Write f) a h = record { nothing = refl; area = refl }
nothing_reported s l (Characteristics p) a h = record { nothing = refl; area = refl }
nothing_reported s l CheckInput a h = record { nothing = refl; area = refl }
nothing_reported s l (ReadCharacteristics p) a h = absurd (miss unreported 5 tt h)

-- what is set, or reported, by what the message is found to be
pub set_as : (s : List ℕ) (l next : Line) {m k : HostMessage} → m ≡ k → SetBy s k l next → SetBy s m l next
set_as s l next e h = subst (λ x. SetBy s x l next) (sym e) h

pub reported_as : (s : List ℕ) (l : Line) (a : List ℕ) (n : ℕ) (b : List ℕ) {m k : HostMessage} → m ≡ k → Reported s k l a n b → Reported s m l a n b
reported_as s l a n b e h = subst (λ x. Reported s x l a n b) (sym e) h
