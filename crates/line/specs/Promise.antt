-- What a method of a call on its way promises: from the line's view it does what a rule does, to both areas and to the line.
use Rattle.std.specs.Prelude.{ℕ, ◌≡◌, List, length}
use Rattle.rules.specs.State.{codes}
use Rattle.rules.specs.Turns.{Rule}
use Rattle.rules.specs.Calls.{message_bytes}
use Rattle.rules.specs.Area.{puts, spot}
use Rattle.line.specs.declared.Line.{Line}
use Rattle.line.specs.declared.Work.{Work}
use Rattle.line.specs.View.{view}
use Rattle.line.specs.With.{on_flow}

-- a call on its way, with the whole of its line
pub record Progress : Type 0 where
  pub line : Line
  pub at : ℕ
  pub sent : ℕ

-- a call's work taken as work on this line: the line with the work's flow
abbrev pub on : Line → Work → Progress
on l w = record { line = on_flow w.flow l; at = w.at; sent = w.sent }

pub record Does (rule : Rule ℕ) (w : Progress) (terminal messages : List ℕ) (r : Progress) (terminal' messages' : List ℕ) : Type 0 where
  pub state : view r.line ≡ (rule (view w.line)).state
  pub shows : spot terminal' r.at ≡ puts (rule (view w.line)).bytes (spot terminal w.at)
  pub sends : spot messages' r.sent ≡ puts (message_bytes codes (rule (view w.line))) (spot messages w.sent)
  pub terminal_length : length terminal' ≡ length terminal
  pub messages_length : length messages' ≡ length messages

-- `Does` for a rule that depends on the line, whose arrays it leaves alone
abbrev pub DoesOn : (Line → Rule ℕ) → Line → Work → List ℕ → List ℕ → Work → List ℕ → List ℕ → Type 0
DoesOn rule l w terminal messages r terminal' messages' =
    Does (rule l) (on l w) terminal messages (on l r) terminal' messages'

-- the same, where keys or text change: one line before, another after
abbrev pub DoesAcross : (Line → Rule ℕ) → Line → Work → List ℕ → List ℕ → Line → Work → List ℕ → List ℕ → Type 0
DoesAcross rule l w terminal messages l' r terminal' messages' =
    Does (rule l) (on l w) terminal messages (on l' r) terminal' messages'
