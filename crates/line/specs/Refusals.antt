-- The rows of the table of refusals as numbers: row 1 for a call that is lent areas, 2 to 4 before a host message is read, 5 and 6 of one that was read.
use Rattle.std.specs.Prelude.{ℕ, Bool, not, List, [], ◌∷◌, length}
use Rattle.rules.specs.Choice.{◌when◌, first_row_answer}
use Rattle.rules.specs.Numbers.{accepted, small_area, wrong_length, wrong_type, wrong_time, unsound, not_carried}
use Rattle.rules.specs.Messages.Forms.{Message, type_in}
use Rattle.rules.specs.Messages.Codec.{sound_length}
use Rattle.rules.specs.State.{State}
use Rattle.rules.specs.Calls.{are_roomy, is_hosts, is_timely, passes_test, is_carried_by}

-- a row alone: its number, or 0 where its test is passed
unfoldable pub row : ℕ → Bool → ℕ
row number passed = first_row_answer (λ n. n) accepted (number when not passed ∷ [])

-- row 1, or 0 where it does not apply
unfoldable pub row_of : Bool → ℕ
row_of roomy = first_row_answer (λ n. n) accepted (small_area when not roomy ∷ [])

-- rows 1 to 4, or 0, by the tests that a call passes
unfoldable pub first_row : Bool → Bool → Bool → Bool → ℕ
first_row roomy sized hosts timely =
    first_row_answer (λ n. n) accepted
    (small_area when not roomy ∷
    wrong_length when not sized ∷
    wrong_type when not hosts ∷
    wrong_time when not timely ∷
    [])

abbrev pub early_row : ℕ → ℕ → List ℕ → State ℕ → ℕ
early_row terminal messages bytes s =
    first_row (are_roomy terminal messages) (sound_length (length bytes)) (is_hosts (type_in bytes)) (is_timely (type_in bytes) s)

-- rows 5 and 6, or 0
unfoldable pub last_row : Bool → Bool → ℕ
last_row passes carries = first_row_answer (λ n. n) accepted (unsound when not passes ∷ not_carried when not carries ∷ [])

abbrev pub late_row : State ℕ → Message ℕ → ℕ
late_row s m = last_row (passes_test s m) (is_carried_by s m)
