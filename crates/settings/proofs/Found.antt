-- Which record a section comes from.
use mathlib.Core.Path.{◌≡◌, sym, ap, ◌∙◌}
use Prim.Native.Nat.{ℕ, ◌≤◌}
use mathlib.Core.Bool.{Bool, true, false, ◌&&◌}
use mathlib.Core.List.{List, []}
use lib.Dec.{leb, eqb}
use lib.ListN.{length}
use borrow.Author.Tests.{leb-true}
use Rattle.rules.specs.Choice.{within, is_empty}
use Rattle.rules.specs.Settings.{section_in, is_sound, are_sound, found_section}
use Rattle.rules.proofs.Choice.{pick_true, pick-false, thirds, empty_length}

-- the code's test: there is such a section, and both records are sound
abbrev pub asked : ℕ → Bool → Bool → Bool
asked n a b = leb 1 n && leb n 4 && (a && b)

-- sections are counted from 1
pub counted : (n : ℕ) (a b : Bool) → asked n a b ≡ true → 1 ≤ n
counted n a b t = leb-true 1 n (thirds (leb 1 n) (leb n 4) (a && b) t).0

module _ (n : ℕ) (own site : List ℕ) {a b : Bool} (p : a ≡ is_sound own) (q : b ≡ is_sound site) where
  -- it is the definition's
  same_test : within 1 4 n && are_sound own site ≡ asked n a b
  unfolding within are_sound
  same_test i = leb 1 n && leb n 4 && (sym p i && sym q i)

  pub not_found : asked n a b ≡ false → [] ≡ found_section n own site
  unfolding found_section
  not_found t = sym (pick-false _ _ (same_test ∙ t))

  module _ {s : List ℕ} (t : asked n a b ≡ true) (e : s ≡ section_in n own) where
    pub from_site : eqb (length s) 0 ≡ true → section_in n site ≡ found_section n own site
    unfolding found_section
    from_site z =
        sym
        (pick_true _ _ (same_test ∙ t) ∙
        pick_true _ _ (ap is_empty (sym e) ∙ empty_length s ∙ z))

    pub from_own : eqb (length s) 0 ≡ false → s ≡ found_section n own site
    unfolding found_section
    from_own z =
        e ∙
        sym
        (pick_true _ _ (same_test ∙ t) ∙
        pick-false _ _ (ap is_empty (sym e) ∙ empty_length s ∙ z))
