-- Request M-107: moving a settings record to the other form.
use Rattle.std.specs.Prelude.{ℕ, ◌≤◌, ◌<◌, ◌≡◌, Bool, true, not, ◌&&◌, List, [], ◌∷◌, map, ltb, eqb}
use Rattle.std.proofs.Math.Option.{some}
use Rattle.rules.specs.Choice.{pick, Row, ◌when◌, first_row_answer, is_empty, joined}
use Rattle.rules.specs.Numbers.{moving_area, small_area, unsound_record, too_large}
use Rattle.rules.specs.Messages.Layout.{bytes_of, framed}
use Rattle.rules.specs.Messages.Codec.{Outcome, refused, sound, all_bytes}
use Rattle.rules.specs.Settings.{form_in, form1, form2, characteristics_section, attributes_section, set_section, largest_read_section}
use Rattle.rules.specs.Settings.{is_form, section_in, largest_read_bytes, top_largest_read, largest_read_in, is_sound, meaning_of, SayableRead, IsRecordOf}

-- what is moved to a form is a sound record of the other
unfoldable pub other_form : ℕ → ℕ
other_form form = pick (eqb form form1) form2 form1

unfoldable pub is_movable : ℕ → List ℕ → Bool
is_movable form bytes = is_sound bytes && eqb (form_in bytes) (other_form form)

-- its largest read, 0 where it has none
abbrev pub largest_read_of : List ℕ → ℕ
largest_read_of bytes = largest_read_in (section_in largest_read_section bytes)

-- the largest read as another form has it; the other sections stay as they are
unfoldable pub largest_read_as : ℕ → List ℕ → List ℕ
largest_read_as form section = pick (is_empty section) [] (bytes_of (largest_read_bytes form) (largest_read_in section))

unfoldable pub moved_sections : ℕ → List ℕ → List (List ℕ)
moved_sections form bytes =
    section_in characteristics_section bytes ∷
    section_in attributes_section bytes ∷
    section_in set_section bytes ∷
    largest_read_as form (section_in largest_read_section bytes) ∷
    []

unfoldable pub moved : ℕ → List ℕ → List ℕ
moved form bytes = form ∷ joined (map framed (moved_sections form bytes))

-- the refusals, in their order, by the length of the area
unfoldable pub move_refusals : ℕ → ℕ → List ℕ → List Row
move_refusals form area bytes =
    small_area when ltb area moving_area ∷
    unsound_record when not (is_movable form bytes) ∷
    too_large when ltb (top_largest_read form) (largest_read_of bytes) ∷
    []

-- moving to a form, into an area of this length: the first refusal that applies, else the bytes
unfoldable pub move : ℕ → ℕ → List ℕ → Outcome (List ℕ)
move form area bytes = first_row_answer refused (sound (moved form bytes)) (move_refusals form area bytes)

-- Moving keeps the meaning: what is written is a sound record of the form, and says what the moved one says.
abbrev pub KeepsMeaning : Type 0
KeepsMeaning =
    (form area : ℕ) (bytes after : List ℕ) →
    is_form form ≡ true →
    all_bytes bytes ≡ true →
    move form area bytes ≡ sound after →
    IsRecordOf form (meaning_of bytes) after

-- What was moved, moved back, is the same bytes.
abbrev pub MovesBack : Type 0
MovesBack =
    (form area area' : ℕ) (bytes after : List ℕ) →
    is_form form ≡ true →
    all_bytes bytes ≡ true →
    moving_area ≤ area' →
    move form area bytes ≡ sound after →
    move (other_form form) area' after ≡ sound bytes

-- A sound record moves where its largest read is none, or one that the other form holds; so every one of form 1 moves to form 2.
abbrev pub SayableMoves : Type 0
SayableMoves =
    (form area : ℕ) (bytes : List ℕ) →
    moving_area ≤ area →
    is_sound bytes ≡ true →
    form_in bytes ≡ other_form form →
    SayableRead form (meaning_of bytes) →
    move form area bytes ≡ sound (moved form bytes)

abbrev pub Form1Moves : Type 0
Form1Moves = (area : ℕ) (bytes : List ℕ) → moving_area ≤ area → is_sound bytes ≡ true → form_in bytes ≡ form1 → move form2 area bytes ≡ sound (moved form2 bytes)

-- 8 is for a sound record of form 2 whose largest read is over what form 1 holds, and for nothing else.
pub record IsTooLarge (area : ℕ) (bytes : List ℕ) : Type 0 where
  pub room : moving_area ≤ area
  pub sound : is_sound bytes ≡ true
  pub in_form : form_in bytes ≡ form2
  pub most : ℕ
  pub largest_read : (meaning_of bytes).largest_read ≡ some most
  pub over : top_largest_read form1 < most

abbrev pub TooLargeExactly : Type 0
TooLargeExactly =
    (area : ℕ) (bytes : List ℕ) → (move form1 area bytes ≡ refused too_large → IsTooLarge area bytes) × (IsTooLarge area bytes → move form1 area bytes ≡ refused too_large)

abbrev pub NeverTooLarge : Type 0
NeverTooLarge = (area : ℕ) (bytes : List ℕ) → move form2 area bytes ≡ refused too_large → ⊥
