use native.Mathlib.Omega.{arith}
use Rattle.line.proofs.WriteLaws.{skips_none, skips_first, skips_not}
use Rattle.line.proofs.write.first_written.Goals as goal

pub returns-then-own-eq0 : goal.returns-then-own-eq0
returns-then-own-eq0 c = let a = c.args in record { within = omega arith; left = skips_none a.skips a.own.now c.if-own-eq0.true }

pub returns-then-skips-own : goal.returns-then-skips-own
returns-then-skips-own c =
    let a = c.args in
    let some = c.if-own-eq0.false in
    record { within = omega (arith, some); left = skips_first a.skips a.own.now some c.if-skips-own.true }

pub returns : goal.returns
returns c =
    let a = c.args in
    record { within = omega arith; left = skips_not a.skips a.own.now c.if-own-eq0.false c.if-skips-own.false }
