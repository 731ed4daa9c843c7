-- The flow of a fresh line: nothing shown, nothing typed, no read.
use Rattle.std.specs.Prelude.{◌≡◌, None}
use Rattle.rules.specs.State.{fresh_terminal}
use Rattle.line.specs.declared.Flow.{Flow}
use Rattle.line.specs.View.{terminal_of}
use Rattle.line.specs.Bounded.{CountedFlow}

pub record IsFreshFlow (f : Flow) : Type 0 where
  pub terminal : terminal_of f.terminal ≡ fresh_terminal
  pub keys_length : f.typed.keys_len ≡ 0
  pub token : f.typed.token_len ≡ 0
  pub pending : f.pending ≡ None
  pub counted : CountedFlow f
