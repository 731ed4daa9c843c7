-- Host messages that are accepted, and what each is of the rules.
use Rattle.std.specs.Prelude.{ℕ, ◌≡◌, true, List, [], ◌∷◌, Option, Some, None}
use Rattle.rules.specs.State.{codes}
use Rattle.rules.specs.Turns.{Rule, still, sends}
use Rattle.rules.specs.Messages.Forms as forms
use Rattle.rules.specs.Messages.Forms.{plain, unread}
use Rattle.rules.specs.Messages.Codec as codec
use Rattle.rules.specs.Messages.Codec.{Held, sound, all_bytes}
use Rattle.rules.specs.ReadData.{unreads, checks_input}
use Rattle.rules.specs.Arrival.{rubbing_out, clear_rule}
use Rattle.rules.specs.StartRead.Acceptance.{begins}
use Rattle.rules.specs.Write.{writes_out}
use Rattle.rules.specs.Host.{our_initiate, obeys}
use Rattle.rules.specs.Characteristics.{with_parameters}
use Rattle.rules.specs.Calls.{received}
use Rattle.areas.specs.Puts.{Puts}
use Rattle.parameters.specs.Lists.{parameters_from}
use Rattle.characteristics.specs.Lists.{report_bytes}
use Rattle.characteristics.specs.View.{CountedHost, host_view}
use Rattle.characteristics.specs.declared.Host.{Host}
use Rattle.message.specs.declared.Message.{Message}
use Rattle.message.specs.declared.Message.TheVariants as message
use Rattle.fields.specs.Spans.{span_of}
use Rattle.message.specs.Found.{start_read_in, write_in, held_in}
use Rattle.line.specs.declared.events.HostMessage.{HostMessage}
use Rattle.line.specs.declared.events.HostMessage.TheVariants.{Initiate, StartRead, Unread, ClearInput, Write, ReadCharacteristics, Characteristics, CheckInput}
use Rattle.line.specs.declared.Line.{Line}
use Rattle.line.specs.declared.Terms.{Terms}
use Rattle.line.specs.View.{view, host_of, reading_of}
use Rattle.line.specs.StartRead.{Startable, reading_at, Opens}

-- the message that it is
abbrev pub message_of : HostMessage → Message
message_of (Initiate f) = message.Initiate f
message_of (StartRead f) = message.StartRead f
message_of (Unread condition) = message.Unread condition
message_of ClearInput = message.ClearInput
message_of (Write f) = message.Write f
message_of (ReadCharacteristics p) = message.ReadCharacteristics p
message_of (Characteristics p) = message.Characteristics p
message_of CheckInput = message.CheckInput

-- the host message that it is: none where only servers send it, or nobody does
abbrev pub host_message_of : Message → Option HostMessage
host_message_of (message.Initiate f) = Some (Initiate f)
host_message_of (message.StartRead f) = Some (StartRead f)
host_message_of (message.ReadData f) = None
host_message_of (message.OutOfBand discard character) = None
host_message_of (message.Unread condition) = Some (Unread condition)
host_message_of message.ClearInput = Some ClearInput
host_message_of (message.Write f) = Some (Write f)
host_message_of (message.WriteCompletion lost horizontal vertical) = None
host_message_of (message.DiscardState kept) = None
host_message_of (message.ReadCharacteristics p) = Some (ReadCharacteristics p)
host_message_of (message.Characteristics p) = Some (Characteristics p)
host_message_of message.CheckInput = Some CheckInput
host_message_of (message.InputCount count) = None
host_message_of (message.InputState nonzero) = None
host_message_of (message.Other kind body) = None

-- the rules take the slice's bytes as these fields, and the message holds them
pub record Accepted (l : Line) (s : List ℕ) (m : HostMessage) : Type 0 where
  pub fields : forms.Message ℕ
  pub held : held_in s (message_of m) ≡ codec.message fields
  pub taken : received (view l) s ≡ sound fields
  pub bytes : all_bytes s ≡ true

-- a message held as a bare type and body is never accepted; `obeys` takes a type that it does not name as Check Input, and so does this
unfoldable pub obeys_held : Held → Rule ℕ
obeys_held (codec.message x) = obeys codes x
obeys_held (codec.other kind body) = checks_input

-- what it does to the flow; what it sets is `SetBy`, what it reports `Reported`
abbrev pub flow_rule : List ℕ → Line → HostMessage → Rule ℕ
flow_rule s l (Initiate f) = sends our_initiate
flow_rule s l (StartRead f) =
    begins codes (start_read_in s f) (reading_of l (reading_at s f l.flow.terminal.screen.column))
flow_rule s l (Unread condition) = unreads codes (plain unread (condition ∷ []))
flow_rule s l ClearInput = clear_rule codes rubbing_out
flow_rule s l (Write f) = writes_out codes (write_in s f)
flow_rule s l (ReadCharacteristics p) = still
flow_rule s l (Characteristics p) = still
flow_rule s l CheckInput = checks_input

-- what a message must be for its rule to be safe: a Start Read has passed its test
abbrev pub StartableMessage : List ℕ → HostMessage → Type 0
StartableMessage s (Initiate f) = Unit {0}
StartableMessage s (StartRead f) = Startable s f
StartableMessage s (Unread condition) = Unit {0}
StartableMessage s ClearInput = Unit {0}
StartableMessage s (Write f) = Unit {0}
StartableMessage s (ReadCharacteristics p) = Unit {0}
StartableMessage s (Characteristics p) = Unit {0}
StartableMessage s CheckInput = Unit {0}

-- the terms' auto prompt is the line's characteristic, which a rule that sees no line cannot look up
abbrev pub Prompts : Terms → Line → HostMessage → Type 0
Prompts t l (Initiate f) = Unit {0}
Prompts t l (StartRead f) = t.auto_prompt ≡ l.switches.prompting
Prompts t l (Unread condition) = Unit {0}
Prompts t l ClearInput = Unit {0}
Prompts t l (Write f) = Unit {0}
Prompts t l (ReadCharacteristics p) = Unit {0}
Prompts t l (Characteristics p) = Unit {0}
Prompts t l CheckInput = Unit {0}

-- What a message sets of the line, beside the flow.
abbrev pub on_initiated : Line → Line
on_initiated l =
    record {
      attributes = l.attributes;
      keys = l.keys;
      text = l.text;
      set = l.set;
      last_set = l.last_set;
      largest_read = l.largest_read;
      initiated = true;
      switches = l.switches;
      terms = l.terms;
      flow = l.flow;
    }

abbrev pub on_host : Host → Line → Line
on_host h l =
    record {
      attributes = h.attributes;
      keys = l.keys;
      text = l.text;
      set = l.set;
      last_set = h.last_set;
      largest_read = h.largest_read;
      initiated = h.initiated;
      switches = h.switches;
      terms = l.terms;
      flow = l.flow;
    }

-- what is set, as the parameters of a Characteristics message leave it
pub record Sets (parameters : List ℕ) (l next : Line) : Type 0 where
  pub host : Host
  pub same : next ≡ on_host host l
  pub settings : host_view host ≡ with_parameters (parameters_from forms.characteristics 0 parameters) (host_of l)
  pub counted : CountedHost host

abbrev pub SetBy : List ℕ → HostMessage → Line → Line → Type 0
SetBy s (Initiate f) l next = next ≡ on_initiated l
SetBy s (StartRead f) l next = Opens s f l next
SetBy s (Unread condition) l next = next ≡ l
SetBy s ClearInput l next = next ≡ l
SetBy s (Write f) l next = next ≡ l
SetBy s (ReadCharacteristics p) l next = next ≡ l
SetBy s (Characteristics p) l next = Sets (span_of s p) l next
SetBy s CheckInput l next = next ≡ l

-- A report goes into the message area, up to a place; any other message leaves it alone.
pub record NoReport (before : List ℕ) (place : ℕ) (after : List ℕ) : Type 0 where
  pub nothing : place ≡ 0
  pub area : after ≡ before

abbrev pub Reported : List ℕ → HostMessage → Line → List ℕ → ℕ → List ℕ → Type 0
Reported s (Initiate f) l before place after = NoReport before place after
Reported s (StartRead f) l before place after = NoReport before place after
Reported s (Unread condition) l before place after = NoReport before place after
Reported s ClearInput l before place after = NoReport before place after
Reported s (Write f) l before place after = NoReport before place after
Reported s (ReadCharacteristics p) l before place after =
    Puts (report_bytes (host_of l) (span_of s p)) before 0 place after
Reported s (Characteristics p) l before place after = NoReport before place after
Reported s CheckInput l before place after = NoReport before place after

-- what is set, as the characteristics look at it
abbrev pub host_in : Line → Host
host_in l =
    record {
      initiated = l.initiated;
      switches = l.switches;
      attributes = l.attributes;
      last_set = l.last_set;
      largest_read = l.largest_read;
    }
