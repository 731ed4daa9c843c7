use mathlib.Core.Path.{sym, ap, ◌∙◌}
use native.Mathlib.Omega.{arith}
use Rattle.rules.specs.State.{fresh_terminal}
use Rattle.rules.proofs.Numbers.{input_size_lem, type_ahead_size_lem, token_size_lem}
use Rattle.line.specs.Bounded.{input_len_of}
use Rattle.console.specs.FreshFlow.{IsFreshFlow}
use Rattle.console.proofs.FreshLine.{is_fresh}
use Rattle.console.proofs.fresh.Goals as goal

pub returns : goal.returns
unfolding fresh_terminal
returns c =
    let set = c.universal-set in
    let flow = c.default-3 in
    let typed = flow.ensures.1.0 in
    let terminal = flow.ensures.1.1 in
    let screen = terminal.0 in
    let begun : IsFreshFlow flow.result =
    record {
      terminal = λ i. record {
        screen = record { column = screen.0 i; line = screen.1.0 i; after_cr = screen.1.1 i };
        discarding = terminal.1.1.0 i;
        quoting = terminal.1.1.1.0 i;
        locked = terminal.1.1.1.1.0 i;
        skip_linefeed = terminal.1.1.1.1.1 i;
        dropped = terminal.1.0 i;
      };
      keys_length = typed.0;
      token = typed.1.1;
      pending = flow.ensures.0;
      counted = record {
        typed = record { keys_length = omega (arith, typed.0); token = typed.1.0.long ∙ sym token_size_lem; token_length = omega (arith, typed.1.1) };
        within = omega (arith, ap input_len_of flow.ensures.0);
      };
    } in
    is_fresh _ _ set.result c.default-2.result flow.result begun set.ensures (sym type_ahead_size_lem) (sym input_size_lem) (omega (arith, c.default-2.ensures))
