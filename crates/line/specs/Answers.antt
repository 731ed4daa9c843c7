-- What a call promises, all alike: number, counts, both areas whole, the view of the next line, and its bounds.
use Rattle.std.specs.Prelude.{ℕ, ◌≡◌, List, length}
use Rattle.rules.specs.Numbers.{accepted}
use Rattle.rules.specs.State.{codes}
use Rattle.rules.specs.Calls as rules
use Rattle.rules.specs.Calls.{Event, message_bytes, area_after}
use Rattle.line.specs.declared.Line.{Line}
use Rattle.line.specs.declared.Answer.{Answer}
use Rattle.line.specs.View.{view}
use Rattle.line.specs.Bounded.{Bounded}

-- the rules' answer to an event, from the line's view, in areas of these lengths
abbrev pub ruled : Event ℕ → Line → List ℕ → List ℕ → rules.Answer ℕ
ruled e l terminal messages =
    rules.answer codes (record { terminal = length terminal; messages = length messages; event = e }) (view l)

pub record Answers (e : Event ℕ) (l : Line) (terminal messages : List ℕ) (r : Answer) (terminal' messages' : List ℕ) : Type 0 where
  pub number : r.number ≡ (ruled e l terminal messages).number
  pub state : view r.line ≡ (ruled e l terminal messages).turn.state
  pub shown : r.terminal ≡ length (ruled e l terminal messages).turn.bytes
  pub sent : r.messages ≡ length (message_bytes codes (ruled e l terminal messages).turn)
  pub terminal_area : terminal' ≡ area_after (ruled e l terminal messages).turn.bytes terminal
  pub message_area : messages' ≡ area_after (message_bytes codes (ruled e l terminal messages).turn) messages
  pub bounded : Bounded r.line
  -- a refusal hands the very line back
  pub same : (r.number ≡ accepted → ⊥) → r.line ≡ l

abbrev pub refusal : ℕ → Line → Answer
refusal n l = record { line = l; number = n; terminal = 0; messages = 0 }
