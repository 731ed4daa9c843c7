-- What follows the head: written and read back, read and written again.
use mathlib.Core.Path.{◌≡◌, refl, sym, ap, ◌∙◌}
use Prim.Native.Nat.{ℕ, suc}
use native.Mathlib.Omega.{arith}
use mathlib.Core.Bool.{true, false≢true}
use mathlib.Core.List.{List, [], ◌∷◌, ◌++◌}
use lib.Dec.{ltb, leb}
use lib.ListN.{length, length-append, take-append-drop}
use lib.Seq.{length-take-le, take-append_seam, drop-append_seam}
use borrow.Author.Tests.{ltb-true, lt-ltb}
use Rattle.rules.specs.Choice.{is_empty, all_are}
use Rattle.rules.specs.Messages.Parameters.{sound_parameter, fits_parameter}
use Rattle.rules.specs.Messages.Forms.{Message, Tail, nothing, text, set_and_text, list}
use Rattle.rules.specs.Messages.Codec.{whole_tail, set_in, parameters_in, text_in, all_bytes, tail_bytes, fits_tail, set_size}
use Rattle.rules.specs.Messages.Unused.{zero_tail}
use Rattle.rules.proofs.Choice.{both, halves, thirds, quarters, is_empty_nil, all_split}
use Rattle.rules.proofs.Parameters.{cut-joined, map-cleaned, cut-cleaned_fits, cut-cleaned_sound, cut-cleaned-length}
use Rattle.rules.proofs.FormTable.{shapes_in, EachCleanable}

-- What reading finds in these bytes of a tail, if they are the bytes of a message's own.
pub record Reads (t : Tail) (m : Message ℕ) (rest : List ℕ) : Type 0 where
  pub whole : whole_tail t rest ≡ true
  pub set : set_in t rest ≡ m.set
  pub parameters : parameters_in t rest ≡ m.parameters
  pub text : text_in t rest ≡ m.text
  pub unused : zero_tail t rest ≡ true

pub tail_reads : (t : Tail) (m : Message ℕ) → fits_tail t m ≡ true → Reads t m (tail_bytes t m)
unfolding tail_bytes fits_tail whole_tail set_in parameters_in text_in zero_tail is_empty
tail_reads nothing m e =
    let h = thirds (is_empty m.set) (is_empty m.parameters) (is_empty m.text) e in
    record {
      whole = refl;
      set = sym (is_empty_nil m.set h.0);
      parameters = sym (is_empty_nil m.parameters h.1);
      text = sym (is_empty_nil m.text h.2);
      unused = refl;
    }
tail_reads text m e =
    let h = thirds (is_empty m.set) (is_empty m.parameters) (all_bytes m.text) e in
    record {
      whole = refl;
      set = sym (is_empty_nil m.set h.0);
      parameters = sym (is_empty_nil m.parameters h.1);
      text = refl;
      unused = refl;
    }
tail_reads set_and_text m e =
    let h = quarters (leb (length m.set) set_size) (all_bytes m.set) (is_empty m.parameters) (all_bytes m.text) e in
    let n = length-append m.set m.text in
    record {
      whole = both (lt-ltb (length m.set) (suc (length (m.set ++ m.text))) (omega arith)) h.0;
      set = take-append_seam m.set m.text;
      parameters = sym (is_empty_nil m.parameters h.2);
      text = drop-append_seam m.set m.text;
      unused = refl;
    }
tail_reads (list shape) m e =
    let ps = m.parameters in
    let h = quarters (is_empty m.set) (all_are (fits_parameter shape) ps) (all_are (sound_parameter shape) ps) (is_empty m.text) e in
    let back = cut-joined shape ps h.2 in
    record {
      whole = rw back h.2;
      set = sym (is_empty_nil m.set h.0);
      parameters = rw back (map-cleaned shape ps h.1);
      text = sym (is_empty_nil m.text h.3);
      unused = rw back h.1;
    }

-- What writing finds in the tail of a message, if it was read from these bytes.
pub record Writes (t : Tail) (m : Message ℕ) (rest : List ℕ) : Type 0 where
  pub fits : fits_tail t m ≡ true
  pub same : length (tail_bytes t m) ≡ length rest

-- the message with this tail
abbrev pub tailed : Tail → ℕ → List ℕ → List ℕ → Message ℕ
tailed t kind numbers rest = record { kind = kind; numbers = numbers; set = set_in t rest; parameters = parameters_in t rest; text = text_in t rest }

module _ (kind : ℕ) (numbers : List ℕ) where
  pub tail_writes : (t : Tail) (rest : List ℕ) → EachCleanable (shapes_in t) → all_bytes rest ≡ true → whole_tail t rest ≡ true →
      Writes t (tailed t kind numbers rest) rest
  unfolding tail_bytes fits_tail whole_tail set_in parameters_in text_in is_empty all_bytes all_are
  tail_writes nothing rest c bytes e = record { fits = refl; same = ap length (sym (is_empty_nil rest e)) }
  tail_writes text rest c bytes e = record { fits = bytes; same = refl }
  tail_writes set_and_text [] c bytes e = absurd (false≢true e)
  tail_writes set_and_text (n ∷ xs) c bytes e =
      let h = halves (ltb n (suc (length xs))) (leb n set_size) e in
      let size = length-take-le n xs (omega (arith, ltb-true n (suc (length xs)) h.0)) in
      let parts = all_split (λ b. ltb b 256) n xs (halves (ltb n 256) (all_bytes xs) bytes).1 in
      record {
        fits = both (both (both (ap (λ k. leb k set_size) size ∙ h.1) parts.0) refl) parts.1;
        same = ap (λ l. suc (length l)) (take-append-drop n xs);
      }
  tail_writes (list shape) rest c bytes e =
      record {
        fits = both (both (cut-cleaned_fits shape c.0 rest bytes e) (cut-cleaned_sound shape c.0 rest bytes e)) refl;
        same = cut-cleaned-length shape c.0 rest bytes e;
      }
