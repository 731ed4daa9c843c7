-- The record and its sections: whole sections of bytes, each behind its length, are the record, and what is written so is whole.
use mathlib.Core.Path.{◌≡◌, refl, sym, ap, ap₂, ◌∙◌}
use Prim.Native.Nat.{ℕ, zero, suc, ◌+◌, ◌-◌, ◌≤◌, ◌<◌}
use native.Mathlib.Omega.{arith}
use mathlib.Core.Bool.{true}
use mathlib.Core.List.{List, [], ◌∷◌, ◌++◌, map, append_assoc}
use lib.Dec.{leb}
use lib.ListN.{length, get_or, take, drop, length-append, length-take, length-drop, take-append-drop}
use lib.Seq.{length-take-le, take-append_seam, drop-drop, drop_at}
use borrow.Author.Tests.{ltb-true, leb-true, le-leb}
use Rattle.rules.specs.Choice.{is_empty, all_are, joined}
use Rattle.rules.specs.Messages.Layout.{word_bytes, word_values, bytes_of, framed}
use Rattle.rules.specs.Messages.Codec.{all_bytes}
use Rattle.rules.specs.Settings.{behind_form, section_length, front_section, behind_section, are_whole, section_behind, section_in}
use Rattle.rules.proofs.Choice.{both, halves, is_empty_nil, all_cons}
use Rattle.rules.proofs.Fields.{length_bytes_of, number_at_bytes_of}
use Rattle.rules.proofs.Bounds.Sent.{framed-length}
use Rattle.rules.proofs.Bounds.Bytes.{no_bytes, bytes_append, bytes_take, bytes_drop, number_bytes, front_bytes, word_small}
use Rattle.rules.proofs.Settings.Parts.{is_short}

-- A section behind its length, and what stands behind it: taken apart and written again.
module _ (rest : List ℕ) (bytes : all_bytes rest ≡ true) (h : word_bytes + section_length rest ≤ length rest) where
  front_length : length (front_section rest) ≡ section_length rest
  unfolding front_section
  front_length = let l = length-drop word_bytes rest in length-take-le (section_length rest) (drop word_bytes rest) (omega arith)

  front_written : framed (front_section rest) ++ behind_section rest ≡ rest
  unfolding front_section behind_section framed
  front_written =
      let n = section_length rest in
      let behind = ap (λ r. take n (drop word_bytes rest) ++ r) (sym (drop-drop n word_bytes rest)) ∙ take-append-drop n (drop word_bytes rest) in
      append_assoc (bytes_of word_bytes (length (front_section rest))) (front_section rest) (behind_section rest) ∙
      ap₂ ◌++◌ (ap (bytes_of word_bytes) front_length ∙ front_bytes word_bytes rest bytes (omega arith)) behind ∙
      take-append-drop word_bytes rest

-- And written, and taken apart again.
module _ (section rest : List ℕ) (h : length section < word_values) where
  length_read : section_length (framed section ++ rest) ≡ length section
  unfolding framed
  length_read = rw append_assoc (number_at_bytes_of word_bytes (length section) [] (section ++ rest) h)

  front_read : front_section (framed section ++ rest) ≡ section
  unfolding front_section framed
  front_read =
      rw (length_read, append_assoc, drop_at (bytes_of word_bytes (length section)) (section ++ rest) word_bytes (length_bytes_of word_bytes (length section)))
      (take-append_seam section rest)

  behind_read : behind_section (framed section ++ rest) ≡ rest
  unfolding behind_section
  behind_read = rw length_read (drop_at (framed section) rest (word_bytes + length section) (framed-length section))

  front_whole : leb (word_bytes + section_length (framed section ++ rest)) (length (framed section ++ rest)) ≡ true
  front_whole =
      let n = length-append (framed section) rest in
      let w = framed-length section in
      rw length_read (le-leb (word_bytes + length section) (length (framed section ++ rest)) (omega arith))

-- Bytes in sections.
behind_bytes : (rest : List ℕ) → all_bytes rest ≡ true → all_bytes (behind_section rest) ≡ true
unfolding behind_section
behind_bytes rest e = bytes_drop (word_bytes + section_length rest) rest e

one_bytes : (n : ℕ) (rest : List ℕ) → all_bytes rest ≡ true → all_bytes (section_behind n rest) ≡ true
unfolding section_behind front_section
one_bytes zero rest e = bytes_take (section_length rest) (drop word_bytes rest) (bytes_drop word_bytes rest e)
one_bytes (suc n) rest e = one_bytes n (behind_section rest) (behind_bytes rest e)

pub section_bytes : (n : ℕ) (bytes : List ℕ) → all_bytes bytes ≡ true → all_bytes (section_in n bytes) ≡ true
unfolding section_in
section_bytes n bytes e = one_bytes (n - 1) (behind_form bytes) (bytes_drop 1 bytes e)

-- a section is as long as two bytes can say
one_short : (n : ℕ) (rest : List ℕ) → all_bytes rest ≡ true → length (section_behind n rest) < word_values
unfolding section_behind front_section
one_short zero rest e =
    let taken = length-take (section_length rest) (drop word_bytes rest) in omega (arith, word_small rest e)
one_short (suc n) rest e = one_short n (behind_section rest) (behind_bytes rest e)

pub section_short : (n : ℕ) (bytes : List ℕ) → all_bytes bytes ≡ true → length (section_in n bytes) < word_values
unfolding section_in
section_short n bytes e = one_short (n - 1) (behind_form bytes) (bytes_drop 1 bytes e)

pub sections_bytes : (ss : List (List ℕ)) → all_are all_bytes ss ≡ true → all_bytes (joined (map framed ss)) ≡ true
unfolding joined framed
sections_bytes [] e = no_bytes
sections_bytes (s ∷ ss) e =
    let t = all_cons all_bytes s ss e in
    bytes_append (framed s) (joined (map framed ss)) (bytes_append (bytes_of word_bytes (length s)) s (number_bytes word_bytes (length s)) t.0)
    (sections_bytes ss t.1)

-- So many sections: the same by induction.
unfoldable pub sections_in : ℕ → List ℕ → List (List ℕ)
sections_in zero rest = []
sections_in (suc n) rest = front_section rest ∷ sections_in n (behind_section rest)

pub sections_written : (n : ℕ) (rest : List ℕ) → all_bytes rest ≡ true → are_whole n rest ≡ true → joined (map framed (sections_in n rest)) ≡ rest
unfolding are_whole sections_in joined
sections_written zero rest bytes e = sym (is_empty_nil rest e)
sections_written (suc n) rest bytes e =
    let t = halves (leb (word_bytes + section_length rest) (length rest)) (are_whole n (behind_section rest)) e in
    let h = leb-true (word_bytes + section_length rest) (length rest) t.0 in
    ap (λ r. framed (front_section rest) ++ r) (sections_written n (behind_section rest) (behind_bytes rest bytes) t.1) ∙
    front_written rest bytes h

short_length : (section : List ℕ) → is_short section ≡ true → length section < word_values
unfolding is_short
short_length section e = ltb-true (length section) word_values e

pub section_read : (n : ℕ) (ss : List (List ℕ)) → all_are is_short ss ≡ true → n < length ss →
    section_behind n (joined (map framed ss)) ≡ get_or ss n []
unfolding section_behind joined
section_read n [] e k = absurd (omega arith)
section_read zero (s ∷ ss) e k = front_read s (joined (map framed ss)) (short_length s (all_cons is_short s ss e).0)
section_read (suc n) (s ∷ ss) e k =
    let t = all_cons is_short s ss e in
    ap (section_behind n) (behind_read s (joined (map framed ss)) (short_length s t.0)) ∙ section_read n ss t.1 (omega arith)

pub sections_whole : (ss : List (List ℕ)) → all_are is_short ss ≡ true → are_whole (length ss) (joined (map framed ss)) ≡ true
unfolding are_whole joined is_empty
sections_whole [] e = refl
sections_whole (s ∷ ss) e =
    let t = all_cons is_short s ss e in
    let rest = joined (map framed ss) in
    let h = short_length s t.0 in
    both (front_whole s rest h) (ap (are_whole (length ss)) (behind_read s rest h) ∙ sections_whole ss t.1)
