-- What is put for the largest read of a record that is moved.
use mathlib.Core.Path.{◌≡◌, sym, ap, ap₂, ◌∙◌}
use Prim.Native.Nat.{ℕ}
use mathlib.Core.Bool.{true, false}
use lib.Dec.{eqb}
use mathlib.Core.List.{List, ◌++◌, append-nil}
use lib.ListN.{length}
use Rattle.rules.specs.Messages.Layout.{word_bytes, bytes_of, framed}
use Rattle.rules.specs.Settings.{largest_read_bytes, largest_read_in}
use Rattle.rules.specs.Settings.Moving.{largest_read_as}
use Rattle.rules.proofs.Choice.{pick_true, pick-false, empty_length}
use Rattle.rules.proofs.Fields.{length_bytes_of}

-- the section of the largest read behind its length
module _ (form : ℕ) (section : List ℕ) where
  pub none_framed : eqb (length section) 0 ≡ true → bytes_of word_bytes 0 ≡ framed (largest_read_as form section)
  unfolding framed largest_read_as
  none_framed e = sym (ap framed (pick_true _ _ (empty_length section ∙ e)) ∙ append-nil (bytes_of word_bytes 0))

  pub read_framed : {width n : ℕ} → eqb (length section) 0 ≡ false → width ≡ largest_read_bytes form → n ≡ largest_read_in section →
      bytes_of word_bytes width ++ bytes_of width n ≡ framed (largest_read_as form section)
  unfolding framed largest_read_as
  read_framed {width} {n} filled w v =
      ap (λ size. bytes_of word_bytes size ++ bytes_of width n) (sym (length_bytes_of width n)) ∙
      ap framed (ap₂ bytes_of w v ∙ sym (pick-false _ _ (empty_length section ∙ filled)))
