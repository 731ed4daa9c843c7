use mathlib.Core.Path.{refl}
use native.Mathlib.Omega.{arith}
use Rattle.rules.specs.Settings.{form1, form2, is_form}
use Rattle.rules.proofs.Bounds.Bytes.{bytes_all}
use Rattle.replay.proofs.Moved.{says_the_same}
use Rattle.replay.proofs.moving.moved.Goals as goal

pub returns-in-One : goal.returns-in-One
unfolding is_form
returns-in-One c =
    let bytes = c.args.«record».now in
    says_the_same form1 refl bytes (bytes_all bytes (λ i. omega (arith, c.type_inv.record i))) c.to_form_1.ensures

pub returns-in-Two : goal.returns-in-Two
unfolding is_form
returns-in-Two c =
    let bytes = c.args.«record».now in
    says_the_same form2 refl bytes (bytes_all bytes (λ i. omega (arith, c.type_inv.record i))) c.to_form_2.ensures
