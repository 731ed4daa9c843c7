-- A part of a meaning and its section: none is the empty section. Each kind of section has the same two laws, which go together to the record's:
-- a sound section that is not empty is written from what it says, and what is written of a part is such a section.
use mathlib.Core.Path.{◌≡◌, refl, ap, subst, ◌∙◌}
use Prim.Native.Nat.{ℕ, ◌<◌}
use mathlib.Core.Bool.{Bool, true, false, true≢false}
use mathlib.Core.List.{List, [], ◌∷◌}
use mathlib.Core.Option.{Option, none, some, none-ne-some, some-injective}
use lib.Dec.{ltb}
use lib.ListN.{length}
use borrow.Author.Tests.{lt-ltb}
use Rattle.rules.specs.Choice.{is_empty, all_are}
use Rattle.rules.specs.Messages.Layout.{word_values}
use Rattle.rules.specs.Messages.Codec.{all_bytes}
use Rattle.rules.specs.Settings.{unless_empty, or_empty}

-- a length that two bytes hold
unfoldable pub is_short : List ℕ → Bool
is_short section = ltb (length section) word_values

module _ {A : Type 0} (sound : List ℕ → Bool) (says : List ℕ → A) where
  -- a section for this part
  pub record Says (part : A) (section : List ℕ) : Type 0 where
    pub filled : is_empty section ≡ false
    pub short : length section < word_values
    pub bytes : all_bytes section ≡ true
    pub passes : sound section ≡ true
    pub said : says section ≡ part

  -- and for a part that may be none
  pub record MaySay (part : Option A) (section : List ℕ) : Type 0 where
    pub short : is_short section ≡ true
    pub bytes : all_bytes section ≡ true
    pub passes : sound section ≡ true
    pub said : unless_empty says section ≡ part

module _ {A : Type 0} (says : List ℕ → A) where
  -- what holds of what a section says holds of the part
  pub part_holds : (P : A → Type 0) (section : List ℕ) → (is_empty section ≡ false → P (says section)) →
      (part : A) → unless_empty says section ≡ some part → P part
  unfolding unless_empty is_empty
  part_holds P [] h part e = absurd (none-ne-some part e)
  part_holds P (b ∷ bytes) h part e = subst P (some-injective (says (b ∷ bytes)) part e) (h refl)

  pub says_some : (section : List ℕ) → is_empty section ≡ false → unless_empty says section ≡ some (says section)
  unfolding unless_empty is_empty
  says_some [] e = absurd (true≢false e)
  says_some (b ∷ bytes) e = refl

  module _ (writes : A → List ℕ) where
    -- a section that is written from what it says
    pub part_back : (section : List ℕ) → (is_empty section ≡ false → writes (says section) ≡ section) → or_empty writes (unless_empty says section) ≡ section
    unfolding unless_empty or_empty is_empty
    part_back [] back = refl
    part_back (b ∷ bytes) back = back refl

    -- a part of which is written what says it
    pub part_said : (sound : List ℕ → Bool) (part : Option A) → sound [] ≡ true → ((a : A) → part ≡ some a → Says sound says a (writes a)) →
        MaySay sound says part (or_empty writes part)
    unfolding unless_empty or_empty is_short all_bytes all_are
    part_said sound none empty written = record { short = refl; bytes = refl; passes = empty; said = refl }
    part_said sound (some a) empty written =
        let w = written a refl in
        record {
          short = lt-ltb (length (writes a)) word_values w.short;
          bytes = w.bytes;
          passes = w.passes;
          said = says_some (writes a) w.filled ∙ ap some w.said;
        }
