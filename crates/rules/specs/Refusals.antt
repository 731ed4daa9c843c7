-- The number of each refusal.
use Rattle.std.specs.Prelude.{ℕ, Result, Ok, Err}
use Rattle.rules.specs.Numbers.{accepted, small_area, wrong_length, wrong_type, wrong_time, unsound, not_carried, unsound_record, too_large}
use Rattle.rules.specs.declared.refusals.Refusal.{Refusal}
use Rattle.rules.specs.declared.refusals.Refusal.TheVariants.{SmallArea, WrongLength, WrongType, WrongTime, Unsound, NotCarried, UnsoundRecord, TooLarge}

abbrev pub number_of : Refusal → ℕ
number_of SmallArea = small_area
number_of WrongLength = wrong_length
number_of WrongType = wrong_type
number_of WrongTime = wrong_time
number_of Unsound = unsound
number_of NotCarried = not_carried
number_of UnsoundRecord = unsound_record
number_of TooLarge = too_large

-- the number that an answer gives: 0 where nothing is refused
abbrev pub answered : {A : Type 0} → Result A Refusal → ℕ
answered (Ok a) = accepted
answered (Err e) = number_of e
