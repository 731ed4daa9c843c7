-- The lines that a program can come by: the last of a chain of calls from a fresh line. Nothing here ties the chain to the script.
use Rattle.std.specs.Prelude.{ℕ, ◌≡◌, List, [], ◌∷◌}
use Rattle.rules.specs.State.{State, codes, fresh}
use Rattle.rules.specs.Calls.{Call, answer}
use Rattle.line.specs.declared.Line.{Line}
use Rattle.line.specs.Chains.{Link, FromFresh, calls_of}

-- the line that a chain's last call handed back
unfoldable pub last_line : Line → List Link → Line
last_line l [] = l
last_line l (k ∷ ks) = last_line k.answer.line ks

-- a chain from a fresh line to this one
pub record Played (l : Line) : Type 0 where
  pub links : List Link
  pub chain : FromFresh links
  pub last : last_line chain.line links ≡ l

-- the rules' state after a list of calls
unfoldable pub after : State ℕ → List (Call ℕ) → State ℕ
after s [] = s
after s (c ∷ cs) = after (answer codes c s).turn.state cs

-- the rules' count of dropped keys after the calls that led to this line, whatever they were
abbrev pub IsCount : Line → ℕ → Type 0
IsCount l n = (p : Played l) → n ≡ (after fresh (calls_of p.links)).terminal.dropped
