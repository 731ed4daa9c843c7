use mathlib.Core.Path.{refl}
use native.Mathlib.Omega.{arith}
use Rattle.rules.specs.Messages.Forms.{plain}
use Rattle.line.proofs.Work.sends_plain.Goals as goal

pub returns : goal.returns
returns c =
    let sent = c.send.ensures in
    record { rule = λ kind numbers h i. sent.rule (plain kind numbers) (record { held = h _; listless = refl; set = omega arith; lie = i }) }
