-- No refusal has the number of an accepted call.
use Rattle.std.proofs.Common.{◌≡◌, arith}
use Rattle.rules.specs.declared.refusals.Refusal.{Refusal}
use Rattle.rules.specs.declared.refusals.Refusal.TheVariants.{SmallArea, WrongLength, WrongType, WrongTime, Unsound, NotCarried, UnsoundRecord, TooLarge}
use Rattle.rules.specs.Refusals.{number_of}

pub never-accepted : (e : Refusal) → number_of e ≡ 0 → ⊥
never-accepted SmallArea = omega arith
never-accepted WrongLength = omega arith
never-accepted WrongType = omega arith
never-accepted WrongTime = omega arith
never-accepted Unsound = omega arith
never-accepted NotCarried = omega arith
never-accepted UnsoundRecord = omega arith
never-accepted TooLarge = omega arith
