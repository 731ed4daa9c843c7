use mathlib.Core.Path.{sym, ap₂}
use mathlib.Core.Bool.{◌&&◌}
use lib.Dec.{leb}
use Rattle.rules.proofs.Numbers.{terminal_area_lem, message_area_lem}
use Rattle.line.proofs.refusals.are_roomy.Goals as goal

pub returns : goal.returns
returns c =
    ap₂ (λ a b. leb a c.args.terminal && leb b c.args.messages) (sym terminal_area_lem) (sym message_area_lem)
