-- The head of a message, group by group: from the numbers that the code reads to the fields that the definition has.
use mathlib.Core.Path.{◌≡◌, refl, sym, ap, ap₂, ◌∙◌}
use Prim.Native.Nat.{ℕ, zero, suc, ◌+◌, ◌/◌, ◌%◌, ◌^◌, ◌<◌, ◌≤◌}
use native.Mathlib.Nat.{mod-eq_of_lt}
use native.Mathlib.Numerals.{add-one}
use native.Mathlib.Omega.{arith}
use mathlib.Core.List.{List, [], ◌∷◌, ◌++◌}
use lib.ListN.{length, take, drop, replicate}
use lib.Seq.{drop-cons}
use Rattle.rules.specs.Messages.Layout.{Group, flags, byte, word, byte_at, fields_in, number_at, read_groups}
use Rattle.fields.proofs.Numbers.{number_one}

-- the fields of a number, taken one after the other from bit 0 on
pub record Taken (ws : List ℕ) (v : ℕ) (fs : List ℕ) : Type 0 where
  pub same : fs ≡ fields_in ws v

pub none_taken : {v : ℕ} → Taken [] v []
unfolding fields_in
none_taken = record { same = refl }

pub taken : {w : ℕ} {ws fs : List ℕ} {v field rest : ℕ} → field ≡ v % 2 ^ w → rest ≡ v / 2 ^ w → Taken ws rest fs → Taken (w ∷ ws) v (field ∷ fs)
unfolding fields_in
taken {ws = ws} e r h = record { same = ap₂ ◌∷◌ e (h.same ∙ ap (fields_in ws) r) }

-- the fields of the groups that begin at a place
pub record Head (gs : List Group) (at : ℕ) (s : List ℕ) (vs : List ℕ) : Type 0 where
  pub same : read_groups gs at s ≡ vs

pub no_more : {at : ℕ} {s : List ℕ} → Head [] at s []
unfolding read_groups
no_more = record { same = refl }

module _ {gs : List Group} {at : ℕ} {s vs : List ℕ} where
  -- fields of any widths
  pub flags_first : (n : ℕ) (ws : List ℕ) (v : ℕ) → v ≡ number_at n at s → Head gs (at + n) s vs →
      Head (flags n ws ∷ gs) at s (fields_in ws v ++ vs)
  unfolding read_groups
  flags_first n ws v e h = record { same = ap₂ (λ w r. fields_in ws w ++ r) (sym e) h.same }

  -- fields that were taken one after the other
  pub taken_first : {n : ℕ} {ws fs : List ℕ} {v : ℕ} → v ≡ number_at n at s → Taken ws v fs → Head gs (at + n) s vs →
      Head (flags n ws ∷ gs) at s (fs ++ vs)
  taken_first {n} {ws} {fs} {v} e f h = record { same = (flags_first n ws v e h).same ∙ ap (λ fields. fields ++ vs) (sym f.same) }

  -- bytes that hold no field
  pub none_first : Head gs (at + 1) s vs → Head (flags 1 [] ∷ gs) at s vs
  unfolding fields_in
  none_first h = flags_first 1 [] (number_at 1 at s) refl h

  -- fields in one byte, and a single bit
  pub bits_first : (ws : List ℕ) (v : ℕ) → v ≡ byte_at s at → Head gs (at + 1) s vs → Head (flags 1 ws ∷ gs) at s (fields_in ws v ++ vs)
  bits_first ws v e h = flags_first 1 ws v (e ∙ sym (number_one at s)) h

  pub bit_first : {v : ℕ} → v ≡ byte_at s at → Head gs (at + 1) s vs → Head (flags 1 (1 ∷ []) ∷ gs) at s (v % 2 ∷ vs)
  unfolding fields_in
  bit_first {v} e h = bits_first (1 ∷ []) v e h

  whole_field : (n w : ℕ) {v : ℕ} → v ≡ number_at n at s → v < 2 ^ w → Head gs (at + n) s vs → Head (flags n (w ∷ []) ∷ gs) at s (v ∷ vs)
  unfolding fields_in
  whole_field n w {v} e v< h = record { same = (flags_first n (w ∷ []) v e h).same ∙ ap (λ u. u ∷ vs) (mod-eq_of_lt v<) }

  pub byte_first : {v : ℕ} → v ≡ byte_at s at → v < 256 → Head gs (at + 1) s vs → Head (byte ∷ gs) at s (v ∷ vs)
  byte_first e v< h = whole_field 1 8 (e ∙ sym (number_one at s)) v< h

  pub word_first : {v : ℕ} → v ≡ number_at 2 at s → v < 65536 → Head gs (at + 2) s vs → Head (word ∷ gs) at s (v ∷ vs)
  word_first e v< h = whole_field 2 16 e v< h

-- a run of bytes
pub bytes_run : (n at : ℕ) (s : List ℕ) → ((i : ℕ) → byte_at s i < 256) → at + n ≤ length s → Head (replicate n byte) at s (take n (drop at s))
bytes_run zero at s small h = no_more
bytes_run (suc n) at s small h =
    let next = bytes_run n (at + 1) s small (omega arith) in
    rw (drop-cons s at 0 (omega arith), ← add-one at) (byte_first refl (small at) next)
