-- Whether a message fits: from what the code tests to what the definition does.
use mathlib.Core.Path.{◌≡◌, refl, sym, ap, ap₂, subst, ◌∙◌}
use Prim.Native.Nat.{ℕ, ◌<◌}
use mathlib.Core.Bool.{Bool, true, false, ◌&&◌, and_assoc, and-true}
use mathlib.Core.List.{List, [], ◌∷◌}
use lib.Dec.{leb, ltb}
use lib.ListN.{length}
use borrow.Author.Tests.{lt-ltb}
use Rattle.rules.specs.Choice.{pick, is_empty}
use Rattle.rules.specs.Messages.Layout.{widths_of, fits}
use Rattle.rules.specs.Messages.Forms.{forms, form_of}
use Rattle.rules.specs.Messages.Codec.{all_bytes, defined_fields, fits_tail, fits_as, fits_held}
use Rattle.rules.specs.Numbers.{input_size}
use Rattle.rules.specs.StartRead.{sound_start_read}
use Rattle.rules.proofs.Choice.{both, all_split}
use Rattle.fields.specs.declared.Span.{Span}
use Rattle.message.specs.declared.Message.{Message}
use Rattle.message.specs.declared.Message.TheVariants.{StartRead, OutOfBand, Unread, WriteCompletion, DiscardState, InputCount, InputState}
use Rattle.message.specs.declared.StartReadFields.{StartReadFields}
use Rattle.fields.specs.Spans.{span_of}
use Rattle.message.specs.Found.{held_in, start_read_in, text_message}
use Rattle.writing.specs.Fits.{FitsIn}
use Rattle.writing.specs.Spans.{spans_of}
use Rattle.writing.proofs.Lengths.{spans_length}

-- the bytes of a span are bytes
pub span_bytes : (s : List ℕ) (p : Span) → all_bytes s ≡ true → all_bytes (span_of s p) ≡ true
unfolding all_bytes span_of
span_bytes s p h = (all_split (λ b. ltb b 256) p.len _ (all_split (λ b. ltb b 256) p.start s h).1).0

-- a message by its case
pub fits_as_lem : (s : List ℕ) {m n : Message} {t : Bool} → m ≡ n → FitsIn s n t → FitsIn s m t
fits_as_lem s {t = t} e w = subst (λ k. FitsIn s k t) (sym e) w

pub held_fits : (s : List ℕ) {m n : Message} {t : Bool} → m ≡ n → t ≡ fits_held (held_in s n) → FitsIn s m t
held_fits s e w = fits_as_lem s e (record { same = λ _. w })

-- Messages without lists: their flag, where they have one. What is left of the test holds.
passes : (t a : Bool) → a ≡ true → t ≡ t && a && true && true
passes true a e = rw e
passes false a e = refl

module _ (s : List ℕ) where
  pub unread_fits : (v : ℕ) → ltb v 2 ≡ fits_held (held_in s (Unread v))
  unfolding held_in fits_held fits_as form_of forms widths_of fits fits_tail defined_fields pick is_empty
  unread_fits v = passes (ltb v 2) true refl

  pub discard_fits : (v : ℕ) → ltb v 2 ≡ fits_held (held_in s (DiscardState v))
  unfolding held_in fits_held fits_as form_of forms widths_of fits fits_tail defined_fields pick is_empty
  discard_fits v = passes (ltb v 2) true refl

  pub state_fits : (v : ℕ) → ltb v 2 ≡ fits_held (held_in s (InputState v))
  unfolding held_in fits_held fits_as form_of forms widths_of fits fits_tail defined_fields pick is_empty
  state_fits v = passes (ltb v 2) true refl

  pub band_fits : (v w : ℕ) → w < 256 → ltb v 2 ≡ fits_held (held_in s (OutOfBand v w))
  unfolding held_in fits_held fits_as form_of forms widths_of fits fits_tail defined_fields pick is_empty
  band_fits v w h = passes (ltb v 2) (ltb w 256 && true) (both (lt-ltb w 256 h) refl)

  pub completion_fits : (v x y : ℕ) → x < 65536 → y < 65536 → ltb v 2 ≡ fits_held (held_in s (WriteCompletion v x y))
  unfolding held_in fits_held fits_as form_of forms widths_of fits fits_tail defined_fields pick is_empty
  completion_fits v x y p q =
      passes (ltb v 2) (ltb x 65536 && (ltb y 65536 && true)) (both (lt-ltb x 65536 p) (both (lt-ltb y 65536 q) refl))

  pub count_fits : (x : ℕ) → x < 65536 → true ≡ fits_held (held_in s (InputCount x))
  unfolding held_in fits_held fits_as form_of forms widths_of fits fits_tail defined_fields pick is_empty
  count_fits x h = sym (both (both (both (lt-ltb x 65536 h) refl) refl) refl)

pub read_data_fits : (code more : ℕ) {low v h t : ℕ} (text : List ℕ) → low < 65536 → v < 256 → h < 256 → t < 65536 → all_bytes text ≡ true →
    ltb code 16 && ltb more 2 && leb code 13 ≡ fits_held (text_message 3 (code ∷ more ∷ low ∷ v ∷ h ∷ t ∷ []) [] text)
unfolding fits_held fits_as form_of forms widths_of fits fits_tail defined_fields pick is_empty
read_data_fits code more {low} {v} {h} {t} text low< v< h< t< bytes =
    simp (lt-ltb low 65536 low<, lt-ltb v 256 v<, lt-ltb h 256 h<, lt-ltb t 65536 t<, bytes, and-true, and_assoc)

pub write_fits : (a b c d e f g h i : ℕ) {v w : ℕ} (text : List ℕ) → v < 256 → w < 256 → all_bytes text ≡ true →
    ltb a 4 && ltb b 2 && ltb c 2 && ltb d 2 && ltb e 2 && ltb f 4 && ltb g 4 && ltb h 2 && ltb i 2 && leb f 2 && leb g 2 ≡
    fits_held (text_message 7 (a ∷ b ∷ c ∷ d ∷ e ∷ f ∷ g ∷ h ∷ i ∷ v ∷ w ∷ []) [] text)
unfolding fits_held fits_as form_of forms widths_of fits fits_tail defined_fields pick is_empty
write_fits a b c d e f g h i {v} {w} text v< w< bytes = simp (lt-ltb v 256 v<, lt-ltb w 256 w<, bytes, and-true, and_assoc)

-- twelve tests, and what follows them
pub twelve : (a b c d e f g h i j k l : Bool) {r : Bool} → r ≡ true →
    a && b && c && d && e && f && g && h && i && j && k && l ≡
    a && (b && (c && (d && (e && (f && (g && (h && (i && (j && (k && (l && r)))))))))))
twelve a b c d e f g h i j k l r = rw r (simp (and-true, and_assoc))

-- Start Read, by the lengths of its spans
pub start_read_fits : (s : List ℕ) (f : StartReadFields) → all_bytes s ≡ true → {flags sound : Bool} →
    flags ≡ fits (widths_of (form_of 2).head) (start_read_in [] f).numbers →
    (length (span_of s f.text) ≡ f.text.len → sound ≡ sound_start_read input_size (start_read_in s f)) →
    FitsIn s (StartRead f) (flags && leb f.set.len 32 && sound)
unfolding held_in spans_of fits_held fits_as fits_tail defined_fields pick is_empty start_read_in form_of forms
start_read_fits s f bytes flags test =
    record {
      same =
          λ e.
          let long = spans_length s (spans_of (StartRead f)) e in
          ap₂ ◌&&◌ (ap₂ ◌&&◌ flags (ap (λ k. leb k 32) (sym long.1))) (test long.2) ∙
          simp (span_bytes s f.set bytes, span_bytes s f.text bytes, and-true);
    }
