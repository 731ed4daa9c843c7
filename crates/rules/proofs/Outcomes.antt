-- A sound outcome of reading or writing, and the tests that it passed.
use mathlib.Core.Path.{◌≡◌, sym, ap, subst, ◌∙◌}
use Prim.Native.Nat.{ℕ, ◌+◌, ◌≤◌}
use native.Mathlib.Omega.{arith}
use mathlib.Core.Bool.{true, not, ◌&&◌}
use mathlib.Core.List.{List}
use lib.Dec.{leb}
use lib.ListN.{length}
use borrow.Author.Tests.{ltb-false, le-ltb, not-false}
use Rattle.rules.specs.Choice.{first_row_answer}
use Rattle.rules.specs.Numbers.{message_size, message_area, unsound}
use Rattle.rules.specs.Messages.Layout.{byte_at, size_of}
use Rattle.rules.specs.Messages.Forms.{Message, head_at, form_of}
use Rattle.rules.specs.Messages.Codec.{Outcome, refused, sound, defined_kind, defined_fields, whole_tail, behind_head, sound_length, sound_as, fields_as, read_refusals, read}
use Rattle.rules.specs.Messages.Codec.{Held, kind_of, held_bytes, fits_held, write_refusals, written}
use Rattle.rules.proofs.Choice.{pick-false, pick_first, pick_second, halves}

module _ {A : Type 0} where
  pub refused-sound : {k : ℕ} {x : A} → refused k ≡ sound x → ⊥
  refused-sound e = let z : ◌≡◌ {A = ℕ} 0 1 = cc in omega arith

  pub sound_same : {x y : A} → sound x ≡ sound y → x ≡ y
  sound_same e = cc

  pub refused_same : {k n : ℕ} → ◌≡◌ {A = Outcome A} (refused k) (refused n) → k ≡ n
  refused_same e = cc

  pub other_refusal : {k n : ℕ} → (k ≡ n → ⊥) → ◌≡◌ {A = Outcome A} (refused k) (refused n) → ⊥
  other_refusal other e = other (refused_same e)

-- reading: its tests, and the fields
pub record Readable (bytes : List ℕ) (m : Message ℕ) : Type 0 where
  pub length : sound_length (length bytes) ≡ true
  pub kind : defined_kind (byte_at bytes 0) ≡ true
  pub sound : sound_as (form_of (byte_at bytes 0)) bytes ≡ true
  pub fields : fields_as (form_of (byte_at bytes 0)) bytes ≡ m

pub readable : (bytes : List ℕ) (m : Message ℕ) → read bytes ≡ sound m → Readable bytes m
unfolding read read_refusals first_row_answer
readable bytes m e =
    let l = pick_second _ refused-sound e in
    let k = pick_second _ refused-sound l.1 in
    let s = pick_second _ refused-sound k.1 in
    record { length = not-false _ l.0; kind = not-false _ k.0; sound = not-false _ s.0; fields = sound_same s.1 }

pub read-sound : (bytes : List ℕ) (m : Message ℕ) → Readable bytes m → read bytes ≡ sound m
unfolding read read_refusals first_row_answer
read-sound bytes m r =
    pick-false _ _ (ap not r.length) ∙ pick-false _ _ (ap not r.kind) ∙ pick-false _ _ (ap not r.sound) ∙ ap sound r.fields

pub read_defined : (bytes : List ℕ) (m : Message ℕ) → read bytes ≡ sound m → defined_fields m ≡ true
unfolding sound_as
read_defined bytes m e =
    let r = readable bytes m e in
    let f = form_of (byte_at bytes 0) in
    let whole = leb (head_at + size_of f.head) (length bytes) && whole_tail f.tail (behind_head f bytes) in
    subst (λ x. defined_fields x ≡ true) r.fields (halves whole (defined_fields (fields_as f bytes)) r.sound).1

-- bytes of a sound length and a defined type are refused as unsound
pub read-refused : (bytes : List ℕ) {n : ℕ} → sound_length (length bytes) ≡ true → defined_kind (byte_at bytes 0) ≡ true → read bytes ≡ refused n →
    n ≡ unsound
unfolding read read_refusals first_row_answer
read-refused bytes {n} size kind e =
    let rest = sym (pick-false _ _ (ap not size) ∙ pick-false _ _ (ap not kind)) ∙ e in
    refused_same (sym (pick_first _ (λ h. refused-sound (sym h)) rest).1)

-- writing: its tests, and the bytes
pub record Writable (area : ℕ) (h : Held) (b : List ℕ) : Type 0 where
  pub room : message_area ≤ area
  pub size : length (held_bytes h) ≤ message_size
  pub kind : defined_kind (kind_of h) ≡ true
  pub fits : fits_held h ≡ true
  pub bytes : held_bytes h ≡ b

pub writable : (area : ℕ) (h : Held) (b : List ℕ) → written area h ≡ sound b → Writable area h b
unfolding written write_refusals first_row_answer
writable area h b e =
    let a = pick_second _ refused-sound e in
    let l = pick_second _ refused-sound a.1 in
    let k = pick_second _ refused-sound l.1 in
    let s = pick_second _ refused-sound k.1 in
    record {
      room = ltb-false area message_area a.0;
      size = ltb-false message_size (length (held_bytes h)) l.0;
      kind = not-false _ k.0;
      fits = not-false _ s.0;
      bytes = sound_same s.1;
    }

pub written-sound : (area : ℕ) (h : Held) (b : List ℕ) → Writable area h b → written area h ≡ sound b
unfolding written write_refusals first_row_answer
written-sound area h b w =
    pick-false _ _ (le-ltb area message_area w.room) ∙
    pick-false _ _ (le-ltb message_size (length (held_bytes h)) w.size) ∙
    pick-false _ _ (ap not w.kind) ∙
    pick-false _ _ (ap not w.fits) ∙
    ap sound w.bytes
