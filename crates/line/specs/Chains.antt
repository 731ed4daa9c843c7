-- Chains: calls on a line one after the other, as whoever makes them sees them, and what is claimed of every chain from a fresh line.
use Rattle.std.specs.Prelude.{ℕ, zero, suc, ◌+◌, ◌*◌, ◌-◌, ◌≡◌, true, eqb, length, take}
use mathlib.Core.List.{List, [], ◌∷◌, ◌++◌, map, Memᴰ}
use Rattle.rules.specs.Choice.{pick}
use Rattle.rules.specs.Messages.Layout.{byte_values, byte_at}
use Rattle.rules.specs.Messages.Forms.{read_data, read_data_header}
use Rattle.rules.specs.Calls.{Event, Call, area_after}
use Rattle.rules.specs.Bounds.{is_byte_event}
use Rattle.rules.specs.Bench.{Exchange, runs}
use Rattle.rules.specs.Bench.Rows.{starred, warned}
use Rattle.rules.specs.TwoRuns.{Supposition, supposed, in_band, unacted, blank, Seen}
use Rattle.line.specs.declared.Line.{Line}
use Rattle.line.specs.declared.Answer.{Answer}
use Rattle.line.specs.View.{view}
use Rattle.line.specs.Bounded.{IsFresh}
use Rattle.line.specs.Answers.{Answers}

-- a call: its event, the areas as they were lent, the answer, the areas as they came back, and the dropped count read after it
pub record Link : Type 0 where
  pub event : Event ℕ
  pub terminal : List ℕ
  pub messages : List ℕ
  pub answer : Answer
  pub terminal' : List ℕ
  pub messages' : List ℕ
  pub dropped : ℕ

-- made on this line, it kept the calls' promise; its key is a byte, and its message or its records are bytes, as the calls' types have it
pub record Kept (l : Line) (k : Link) : Type 0 where
  pub byte : is_byte_event k.event ≡ true
  pub promise : Answers k.event l k.terminal k.messages k.answer k.terminal' k.messages'
  pub count : k.dropped ≡ (view k.answer.line).terminal.dropped

-- each call gets the line that the last one handed back
abbrev pub Chain : Line → List Link → Type 0
Chain l [] = Unit {0}
Chain l (k ∷ ks) = Kept l k × Chain k.answer.line ks

-- a chain that begins with a fresh line
pub record FromFresh (ks : List Link) : Type 0 where
  pub line : Line
  pub fresh : IsFresh line
  pub chain : Chain line ks

-- what was asked: the event, and the lengths of the lent areas, whatever stood in them
abbrev pub call_of : Link → Call ℕ
call_of k = record { terminal = length k.terminal; messages = length k.messages; event = k.event }

abbrev pub calls_of : List Link → List (Call ℕ)
calls_of ks = map call_of ks

-- What everyone sees of a link.

-- how many bytes of a message of this type and length are DATA: of Read Data all behind its type and head
unfoldable pub hidden_bytes : ℕ → ℕ → ℕ
hidden_bytes kind size = pick (eqb kind read_data) (size - read_data_header) 0

-- behind the low byte of a message's length: the high byte, and the message's type
abbrev pub high_in : List ℕ → ℕ
high_in rest = byte_at rest 0

abbrev pub kind_in : List ℕ → ℕ
kind_in rest = byte_at rest 1

-- The bytes of a message area with those of DATA blanked, by a walk that shows so many bytes, then hides so many, and then stands at the
-- two bytes of the next message's length, which with its type say how it goes on.
unfoldable pub outside_data : ℕ → ℕ → List ℕ → List ℕ
outside_data show hide [] = []
outside_data zero zero (low ∷ rest) =
    let size = low + byte_values * high_in rest in
    let hidden = hidden_bytes (kind_in rest) size in
    low ∷ outside_data (1 + size - hidden) hidden rest
outside_data zero (suc hide) (b ∷ bs) = blank ∷ outside_data zero hide bs
outside_data (suc show) hide (b ∷ bs) = b ∷ outside_data show hide bs

unfoldable pub seen_of : Link → Seen
seen_of k =
    record {
      number = k.answer.number;
      terminal = take k.answer.terminal k.terminal';
      terminal_count = k.answer.terminal;
      messages = outside_data 0 0 (take k.answer.messages k.messages');
      message_count = k.answer.messages;
      dropped_count = k.dropped;
    }

-- Demand 3: any two chains from fresh lines whose calls differ as supposed look the same.
abbrev pub ChainsLookTheSame : Supposition → Type 0
ChainsLookTheSame arrival =
    (ks js : List Link) → FromFresh ks → FromFresh js → supposed arrival (calls_of ks) (calls_of js) ≡ true → map seen_of ks ≡ map seen_of js

-- the demand's own words
abbrev pub ProgramDemand3 : Type 0
ProgramDemand3 = ChainsLookTheSame in_band

-- and from the weaker supposition of a key's arrival
abbrev pub ProgramDemand3Weak : Type 0
ProgramDemand3Weak = ChainsLookTheSame unacted

-- a link answers as the bench table has it: number, counts, both areas whole, the dropped count
pub record GivesExchange (e : Exchange) (k : Link) : Type 0 where
  pub number : k.answer.number ≡ e.number
  pub shown : k.answer.terminal ≡ length e.terminal
  pub sent : k.answer.messages ≡ length e.messages
  pub terminal : k.terminal' ≡ area_after e.terminal k.terminal
  pub messages : k.messages' ≡ area_after e.messages k.messages
  pub dropped : k.dropped ≡ e.dropped

abbrev pub AllGive : List Exchange → List Link → Type 0
AllGive [] [] = Unit {0}
AllGive [] (k ∷ ks) = ⊥
AllGive (e ∷ es) [] = ⊥
AllGive (e ∷ es) (k ∷ ks) = GivesExchange e k × AllGive es ks

-- The bench table: for each of its rows of calls, every chain from a fresh line that makes these calls gives the row's answers.
abbrev pub ProgramBench : Type 0
ProgramBench =
    (es : List Exchange) → Memᴰ (runs es) (starred ++ warned) →
    (ks : List Link) → FromFresh ks → calls_of ks ≡ map (λ e. e.call) es → AllGive es ks
