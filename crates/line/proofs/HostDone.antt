-- A host message that is accepted: what it sets, what it reports and what it does to the flow are what the rules do.
use mathlib.Core.Path.{◌≡◌, refl, sym, ap, ◌∙◌, subst}
use Prim.Native.Nat.{ℕ}
use mathlib.Core.Bool.{Bool, true, false, not, ◌&&◌}
use Rattle.std.specs.Prelude.{Option, Some, None}
use mathlib.Core.List.{List, map-id}
use lib.Dec.{eqb}
use lib.ListN.{length}
use Rattle.rules.specs.Choice.{pick, joined}
use Rattle.rules.specs.Numbers.{input_size, type_ahead_size}
use Rattle.rules.specs.State.{codes, with_host, with_read, with_last_set}
use Rattle.rules.specs.Messages.Forms as forms
use Rattle.rules.specs.Turns.{Rule, still, sends}
use Rattle.rules.specs.StartRead.Acceptance as rules
use Rattle.rules.specs.Host.{our_initiate, initiates, reports, sets_characteristics, obeys}
use Rattle.rules.specs.Calls.{are_roomy, is_timely, is_pending, carries_questions, refusals, received, does, answers_message, answers, message_bytes}
use Rattle.rules.specs.Bounds.{is_byte_event}
use Rattle.rules.specs.Area.{puts, spot}
use Rattle.rules.specs.Messages.Codec as codec
use Rattle.rules.specs.Messages.Codec.{Held, refused, fields_as, read}
use Rattle.rules.specs.Messages.Layout.{byte_at}
use Rattle.rules.proofs.Outcomes.{refused-sound, readable}
use borrow.Author.Tests.{not-false}
use Rattle.rules.proofs.Bounds.Calls.{received-sound}
use Rattle.rules.proofs.Choice.{pick_true, pick-false, row_behind}
use Rattle.fields.specs.declared.Span.{Span}
use Rattle.message.specs.declared.StartReadFields.{StartReadFields}
use Rattle.fields.specs.Spans.{span_of}
use Rattle.message.specs.Found.{start_read_in, held_in}
use Rattle.areas.specs.Puts.{Puts}
use Rattle.sets.specs.declared.Set.{Set}
use Rattle.line.specs.declared.Terms.{Terms}
use Rattle.characteristics.specs.Lists.{answer_to, report_bytes, questions_in, settings_in}
use Rattle.characteristics.proofs.Held.{held_questions, held_settings, report_carried}
use Rattle.line.specs.declared.Line.{Line}
use Rattle.line.specs.declared.Reading.{Reading}
use Rattle.line.specs.declared.Work.{Work}
use Rattle.line.specs.declared.events.HostMessage.{HostMessage}
use Rattle.line.specs.declared.events.HostMessage.TheVariants.{Initiate, StartRead, Unread, ClearInput, Write, ReadCharacteristics, Characteristics, CheckInput}
use Rattle.line.specs.View.{view, host_of, pending_of, reading_of}
use Rattle.line.specs.declared.acts.Act.{Act}
use Rattle.line.specs.declared.acts.Act.TheVariants.{Obeys}
use Rattle.line.specs.Acts.{Done}
use Rattle.line.specs.Answers.{Answers}
use Rattle.rules.specs.Calls as calls
use Rattle.line.specs.Bounded.{Counted, CountedFlow, Bounded}
use Rattle.line.specs.With.{on_flow, lent}
use Rattle.line.specs.StartRead.{reading_at, on_opened, Opens}
use Rattle.line.specs.Host.{message_of, Accepted, obeys_held, flow_rule, Prompts, on_initiated, Sets, SetBy, NoReport, Reported}
use Rattle.line.specs.Promise.{Progress, on, Does}
use Rattle.line.proofs.Turns.{then_does, changes_does, only_does, not_does}
use Rattle.line.proofs.FlowChanges.{here_rule, for_equal}
use Rattle.line.proofs.SentMessages.{put_does}
use Rattle.line.proofs.Answers.{done_answer, under_way, work_on, begun, answered}
use Rattle.line.proofs.ReceivedMessage.{true-false}
use Rattle.line.proofs.HostAccepted.{questions_known}

-- a rule with nothing behind it
still_behind : {f : Rule ℕ} {w v r : Progress} {t t₁ t₂ m m₁ m₂ : List ℕ} → Does f w t m v t₁ m₁ → Does still v t₁ m₁ r t₂ m₂ → Does f w t m r t₂ m₂
unfolding still message_bytes joined puts
still_behind a b =
    record {
      state = b.state ∙ a.state;
      shows = b.shows ∙ a.shows;
      sends = b.sends ∙ a.sends;
      terminal_length = b.terminal_length ∙ a.terminal_length;
      messages_length = b.messages_length ∙ a.messages_length;
    }

-- another line that looks the same, before a rule and after it
at_view : {f : Rule ℕ} {v l : Line} {at sent : ℕ} {r : Progress} {t t' m m' : List ℕ} → view v ≡ view l →
    Does f (under_way v at sent) t m r t' m' → Does f (under_way l at sent) t m r t' m'
at_view {f} {v} {l} {at} {sent} {r} {t} {t'} {m} {m'} e h =
    record {
      state = h.state ∙ ap (λ z. (f z).state) e;
      shows = h.shows ∙ ap (λ z. puts (f z).bytes (spot t at)) e;
      sends = h.sends ∙ ap (λ z. puts (message_bytes codes (f z)) (spot m sent)) e;
      terminal_length = h.terminal_length;
      messages_length = h.messages_length;
    }

still_same : {w r : Progress} {t m : List ℕ} → view r.line ≡ view w.line → r.at ≡ w.at → r.sent ≡ w.sent → Does still w t m r t m
unfolding still message_bytes joined puts
still_same {w} {r} {t} {m} e at sent =
    record { state = e; shows = ap (spot t) at; sends = ap (spot m) sent; terminal_length = refl; messages_length = refl }

-- the rules answer an accepted message by obeying it
message-answers : (l : Line) (s : List ℕ) (m : HostMessage) → Accepted l s m →
    answers codes (calls.message s) (view l) ≡ does (obeys_held (held_in s (message_of m))) (view l)
unfolding answers answers_message obeys_held
message-answers l s m a = ap (λ o. answers_message codes o (view l)) a.taken ∙ ap (λ h. does (obeys_held h) (view l)) (sym a.held)

abbrev held_kind : Held → ℕ
held_kind (codec.message x) = x.kind
held_kind (codec.other kind body) = kind

-- what a message sets keeps the counts
pub set_counted : (s : List ℕ) (l next : Line) (m : HostMessage) → Counted l → SetBy s m l next → Counted next
set_counted s l next (Initiate f) c e = subst Counted (sym e) (record { table = c.table; keys = c.keys; text = c.text; set = c.set; last_set = c.last_set; prompt = c.prompt; flow = c.flow })
set_counted s l next (StartRead f) c o =
    subst Counted (sym o.same)
    (record { table = c.table; keys = c.keys; text = o.size; set = o.set; last_set = o.last_set; prompt = o.prompt; flow = c.flow })
set_counted s l next (Unread condition) c e = subst Counted (sym e) c
set_counted s l next ClearInput c e = subst Counted (sym e) c
set_counted s l next (Write f) c e = subst Counted (sym e) c
set_counted s l next (ReadCharacteristics p) c e = subst Counted (sym e) c
set_counted s l next (Characteristics p) c e =
    subst Counted (sym e.same)
    (record { table = e.counted.table; keys = c.keys; text = c.text; set = c.set; last_set = e.counted.set; prompt = c.prompt; flow = c.flow })
set_counted s l next CheckInput c e = subst Counted (sym e) c

-- A Start Read comes with no read pending.
module _ (l : Line) (s : List ℕ) (f : StartReadFields) (a : Accepted l s (StartRead f)) where
  start_timely : is_timely forms.start_read (view l) ≡ true
  unfolding received refusals held_in start_read_in fields_as
  start_timely =
      let sized = row_behind refused (read s) _ _ refused-sound a.taken in
      let kind = row_behind refused (read s) _ _ refused-sound sized.1 in
      let time = row_behind refused (read s) _ _ refused-sound kind.1 in
      let fields = (readable s a.fields (received-sound (view l) s a.fields a.taken).0).fields in
      let same : byte_at s 0 ≡ forms.start_read = ap (λ x. x.kind) fields ∙ sym (ap held_kind a.held) in
      ap (λ k. is_timely k (view l)) (sym same) ∙ not-false (is_timely (byte_at s 0) (view l)) time.0

  no_read : l.flow.pending ≡ None
  unfolding is_timely is_pending
  no_read = by_flags l.initiated l.flow.pending start_timely
    where
      by_flags : (begun : Bool) (pending : Option Reading) →
          pick begun (not (eqb forms.start_read forms.initiate) && not (eqb forms.start_read forms.start_read && is_pending (pending_of l pending))) (eqb forms.start_read forms.initiate) ≡ true →
          pending ≡ None
      by_flags begun None e = refl
      by_flags true (Some r) e = absurd (true-false (sym e ∙ pick_true {A = Bool} _ _ refl))
      by_flags false (Some r) e = absurd (true-false (sym e ∙ pick-false {A = Bool} _ _ refl))

-- The line with a read's terms, set and text, and either last set.
module _ (s : List ℕ) (l : Line) (f : StartReadFields) (a : Accepted l s (StartRead f)) (T : Terms) (S : Set) (X : List ℕ) (Z : Set)
    (o : Opens s f l (on_opened T S X Z l)) where
  abbrev x : forms.Message ℕ
  x = start_read_in s f

  -- as it is until the set is remembered
  abbrev opened : Line
  opened = on_opened T S X l.last_set l

  unseen : view opened ≡ view l
  unseen =
      let none = no_read l s f a in
      λ i. with_read ((ap (pending_of opened) none ∙ sym (ap (pending_of l) none)) i) (view l)

  read_begins : reading_of opened (reading_at s f l.flow.terminal.screen.column) ≡ rules.opened_read codes x (view l)
  unfolding rules.opened_read start_read_in
  read_begins = λ i.
      record {
        terms = o.terms i;
        input = (o.input ∙ sym (map-id (rules.data_behind (start_read_in s f)))) i;
        low_water = f.low_water;
        hidden_lf = rules.hides_input x;
        display_column = l.flow.terminal.screen.column;
        idle = 0;
      }

  module _ (t before t' m' text' : List ℕ) (r : Work) where
    begins_does : Does (rules.begins codes x (reading_of opened (reading_at s f l.flow.terminal.screen.column))) (under_way opened 0 0) t before (on (lent T text' opened) r) t' m' →
        Does (rules.begins codes x (rules.opened_read codes x (view l))) (begun l) t before (on (lent T text' opened) r) t' m'
    begins_does d = at_view unseen (for_equal (rules.begins codes x) read_begins d)

    remembers_does : Does (rules.remembers_set codes x) (on (lent T text' opened) r) t' m' (on (lent T text' (on_opened T S X Z l)) r) t' m'
    unfolding rules.remembers_set start_read_in
    remembers_does = by_choice (eqb f.set_choice 1) refl
      where
        by_choice : (b : Bool) → eqb f.set_choice 1 ≡ b →
            Does (rules.remembers_set codes x) (on (lent T text' opened) r) t' m' (on (lent T text' (on_opened T S X Z l)) r) t' m'
        by_choice true e =
            let set = o.last ∙ pick_true _ _ e in
            only_does _ e
            (changes_does t' m' _
            (λ i. with_host (with_last_set (set i) (view opened).host) (view (on_flow r.flow (lent T text' opened)))) refl refl)
        by_choice false e =
            let set = o.last ∙ pick-false _ _ e in
            not_does _ e
            (still_same (λ i. with_host (with_last_set (set i) (view opened).host) (view (on_flow r.flow (lent T text' opened)))) refl refl)

    pub start_does : Does (rules.begins codes x (reading_of opened (reading_at s f l.flow.terminal.screen.column))) (under_way opened 0 0) t before (on (lent T text' opened) r) t' m' →
        Does (rules.starts_read codes x) (begun l) t before (on (lent T text' (on_opened T S X Z l)) r) t' m'
    unfolding rules.starts_read
    start_does d = here_rule refl (then_does (begins_does d) remembers_does)

-- nothing was set or reported before the call's work
begun_as : {p : Rule ℕ} {r : Progress} {t t' m' before mid : List ℕ} (l next : Line) (place : ℕ) → next ≡ l → NoReport before place mid →
    Does p (under_way next 0 place) t mid r t' m' → Does p (begun l) t before r t' m'
begun_as {p} {r} {t} {t'} {m'} {before} {mid} l next place e i d =
    subst (λ z. Does p (begun z) t before r t' m') e
    (subst (λ n. Does p (record { line = next; at = 0; sent = n }) t before r t' m') i.nothing
    (subst (λ b. Does p (under_way next 0 place) t b r t' m') i.area d))

-- By the message's type.
module _ (s t before mid t' m' text' : List ℕ) (l next : Line) (place : ℕ) (r : Work) where
  -- what the call's work does, whatever else is set
  abbrev Works : HostMessage → Line → Type 0
  Works m n =
      (k : Line) → length k.keys ≡ type_ahead_size → Prompts n.terms k m →
      Does (flow_rule s (on_flow n.flow (lent n.terms n.text k)) m) (under_way (on_flow n.flow (lent n.terms n.text k)) 0 place) t mid
      (on (lent n.terms text' k) r) t' m'

  start_turns : (f : StartReadFields) → Accepted l s (StartRead f) → length l.keys ≡ type_ahead_size → Opens s f l next → NoReport before place mid →
      Works (StartRead f) next → Does (rules.starts_read codes (start_read_in s f)) (begun l) t before (on (lent next.terms text' next) r) t' m'
  start_turns f a size o i d =
      let T = next.terms in
      let S = next.set in
      let X = next.text in
      let Z = next.last_set in
      subst
      (λ n. Opens s f l n → Works (StartRead f) n → Does (rules.starts_read codes (start_read_in s f)) (begun l) t before (on (lent n.terms text' n) r) t' m')
      (sym o.same)
      (λ p w.
      start_does s l f a T S X Z p t before t' m' text' r
      (begun_as (opened s l f a T S X Z p) (opened s l f a T S X Z p) place refl i (w (opened s l f a T S X Z p) size p.prompting)))
      o d

  initiate_turns : next ≡ on_initiated l → NoReport before place mid →
      Does (sends our_initiate) (under_way next 0 place) t mid (on (lent next.terms text' next) r) t' m' →
      Does initiates (begun l) t before (on (lent next.terms text' next) r) t' m'
  unfolding initiates
  initiate_turns e i d =
      then_does (changes_does t before _ (ap view e) refl refl) (begun_as next next place refl i d)

  report_turns : (p : Span) → Accepted l s (ReadCharacteristics p) → next ≡ l →
      Puts (report_bytes (host_of next) (span_of s p)) before 0 place mid →
      Does still (under_way next 0 place) t mid (on (lent next.terms text' next) r) t' m' →
      Does (obeys codes (questions_in (span_of s p))) (begun l) t before (on (lent next.terms text' next) r) t' m'
  unfolding obeys pick reports answer_to
  report_turns p a e puts d =
      let known = subst (λ z. carries_questions (view z) (questions_in (span_of s p)) ≡ true) (sym e) (questions_known l s p a) in
      let bytes = report_carried (host_of next) (span_of s p) (view next) known in
      subst (λ z. Does (reports (questions_in (span_of s p))) (begun z) t before (on (lent next.terms text' next) r) t' m') e
      (here_rule refl
      (still_behind (put_does _ (subst (λ bs. Puts bs before 0 place mid) bytes puts) next t) d))

  settings_turns : (p : Span) → Sets (span_of s p) l next → NoReport before place mid →
      Does still (under_way next 0 place) t mid (on (lent next.terms text' next) r) t' m' →
      Does (obeys codes (settings_in (span_of s p))) (begun l) t before (on (lent next.terms text' next) r) t' m'
  unfolding obeys pick sets_characteristics
  settings_turns p e i d =
      let seen = ap view e.same ∙ (λ j. with_host (e.settings j) (view l)) in
      still_behind (changes_does t before _ seen refl refl)
      (begun_as next next place refl i d)

  pub host_does : (m : HostMessage) → Accepted l s m → length l.keys ≡ type_ahead_size → length next.keys ≡ type_ahead_size → SetBy s m l next →
      Reported s m next before place mid → Works m next →
      Does (obeys_held (held_in s (message_of m))) (begun l) t before (on (lent next.terms text' next) r) t' m'
  unfolding obeys_held held_in obeys pick start_read_in
  host_does (StartRead f) a size more o i d = start_turns f a size o i d
  host_does (Unread condition) a size more e i d = begun_as l next place e i (d next more tt)
  host_does ClearInput a size more e i d = begun_as l next place e i (d next more tt)
  host_does (Write f) a size more e i d = begun_as l next place e i (d next more tt)
  host_does CheckInput a size more e i d = begun_as l next place e i (d next more tt)
  host_does (Initiate f) a size more e i d = initiate_turns e i (d next more tt)
  host_does (ReadCharacteristics p) a size more e i d = for_equal obeys_held (sym (held_questions s p)) (report_turns p a e i (d next more tt))
  host_does (Characteristics p) a size more e i d = for_equal obeys_held (sym (held_settings s p)) (settings_turns p e i (d next more tt))

  -- and the call's answer
  pub host_answers : (m : HostMessage) → Bounded l → (f : CountedFlow next.flow) → Accepted l s m → are_roomy (length t) (length before) ≡ true → SetBy s m l next →
      Reported s m next before place mid → {act : Act} → act ≡ Obeys m →
      ((k : Line) → Done s act next.terms k (work_on next f 0 place) next.text t mid r text' t' m') → length text' ≡ input_size →
      Answers (calls.message s) l t before (done_answer (on (lent next.terms text' next) r)) t' m'
  unfolding is_byte_event
  host_answers m b f a room set said {act} e d size =
      let c = set_counted s l next m b.counted set in
      let works : Works m next = λ k. subst (λ x. Done s x next.terms k (work_on next f 0 place) next.text t mid r text' t' m') e (d k) in
      answered (calls.message s) l t before b (obeys_held (held_in s (message_of m))) (message-answers l s m a) a.bytes room
      (on (lent next.terms text' next) r) t' m' (host_does m a b.counted.keys c.keys set said works)
      (record { table = c.table; keys = c.keys; text = size; set = c.set; last_set = c.last_set; prompt = c.prompt; flow = r.counted })
