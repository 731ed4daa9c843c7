use native.Mathlib.Numerals.{unary_clauses}
use Rattle.std.proofs.Common.{arith}
use Rattle.areas.proofs.Putting.{all_left, turn, none_left, next_digit, no_digits}
use Rattle.areas.proofs.Writer.put_number.Goals as goal

pub loop-init : goal.loop-init
loop-init c = simp unary_clauses all_left

pub loop-preserved : goal.loop-preserved
loop-preserved c = turn (next_digit c.args.count c.loop.counter c.loop.rest c.loop-test.true) c.loop.invariant c.put_byte.ensures

pub returns : goal.returns
returns c = none_left (no_digits c.loop.rest (omega (arith, c.loop-test.false))) c.loop.invariant
