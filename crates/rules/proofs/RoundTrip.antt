-- The round trip: what is written is read back, what was read can be written again, and what is written has its unused bits 0.
use mathlib.Core.Path.{◌≡◌, refl, ap, ◌∙◌, subst}
use Prim.Native.Nat.{ℕ, ◌+◌, ◌≤◌}
use native.Mathlib.Omega.{arith}
use mathlib.Core.Bool.{true, false≢true}
use mathlib.Core.List.{List, [], ◌∷◌}
use lib.Dec.{ltb, leb}
use lib.ListN.{length, length-append, length-drop}
use lib.Seq.{drop_at}
use borrow.Author.Tests.{leb-true, le-leb}
use Rattle.rules.specs.Numbers.{message_size, message_area}
use Rattle.rules.specs.Messages.Layout.{byte_at, size_of, widths_of, fits, read_groups, write_groups}
use Rattle.rules.specs.Messages.Forms.{Message, Form, form_of}
use Rattle.rules.specs.Messages.Codec.{sound, defined_fields, sound_length, sound_as, fields_as, behind_head, read}
use Rattle.rules.specs.Messages.Codec.{whole_tail, all_bytes, tail_bytes, bytes_as, fits_tail, fits_as}
use Rattle.rules.specs.Messages.Codec.{Held, message, other, kind_of, held_bytes, fits_held, written}
use Rattle.rules.specs.Messages.Unused.{zero_as, unused_zero}
use Rattle.rules.proofs.Choice.{both, thirds, within_bounds, within-true, all_split}
use Rattle.rules.proofs.Fields.{roomy, length-write_groups, read_groups_fit, groups_back, groups_zero}
use Rattle.rules.proofs.FormTable.{form_roomy, form_cleanable, shapes_in, EachCleanable}
use Rattle.rules.proofs.Outcomes.{readable, read-sound, Writable, writable, written-sound}
use Rattle.rules.proofs.Tails.{Reads, tail_reads, Writes, tail_writes}

-- Written and read back, by any form whose groups have room.
module _ (f : Form) (m : Message ℕ) (room : roomy f.head ≡ true) (e : fits_as f m ≡ true) where
  abbrev head : List ℕ
  head = write_groups f.head m.numbers

  parts : (fits (widths_of f.head) m.numbers ≡ true) × (fits_tail f.tail m ≡ true) × (defined_fields m ≡ true)
  unfolding fits_as
  parts = thirds (fits (widths_of f.head) m.numbers) (fits_tail f.tail m) (defined_fields m) e

  head_size : length (m.kind ∷ head) ≡ 1 + size_of f.head
  head_size = let n = length-write_groups f.head m.numbers in omega arith

  behind_head_lem : behind_head f (bytes_as f m) ≡ tail_bytes f.tail m
  unfolding behind_head bytes_as
  behind_head_lem = drop_at (m.kind ∷ head) (tail_bytes f.tail m) (1 + size_of f.head) head_size

  tail_back : Reads f.tail m (behind_head f (bytes_as f m))
  tail_back = rw behind_head_lem (tail_reads f.tail m parts.1)

  message_back : fields_as f (bytes_as f m) ≡ m
  unfolding fields_as bytes_as
  message_back =
      let numbers = groups_back f.head m.numbers (m.kind ∷ []) (tail_bytes f.tail m) room parts.0 in
      λ i. record {
        kind = m.kind;
        numbers = numbers i;
        set = tail_back.set i;
        parameters = tail_back.parameters i;
        text = tail_back.text i;
      }

  sound_back : sound_as f (bytes_as f m) ≡ true
  unfolding sound_as bytes_as
  sound_back =
      let n = head_size in
      let l = length-append head (tail_bytes f.tail m) in
      both
      (both (le-leb (1 + size_of f.head) (length (bytes_as f m)) (omega arith)) tail_back.whole)
      (ap defined_fields message_back ∙ parts.2)

  zero_back : zero_as f (bytes_as f m) ≡ true
  unfolding zero_as bytes_as
  zero_back = both (groups_zero f.head m.numbers (m.kind ∷ []) (tail_bytes f.tail m) room parts.0) tail_back.unused

-- Read and written again, by any form whose shapes can be cleaned.
module _
    (f : Form) (bytes : List ℕ) (c : EachCleanable (shapes_in f.tail))
    (small : all_bytes bytes ≡ true) (e : sound_as f bytes ≡ true) where
  abbrev rest : List ℕ
  rest = behind_head f bytes

  tests : (leb (1 + size_of f.head) (length bytes) ≡ true) × (whole_tail f.tail rest ≡ true) × (defined_fields (fields_as f bytes) ≡ true)
  unfolding sound_as
  tests = thirds (leb (1 + size_of f.head) (length bytes)) (whole_tail f.tail rest) (defined_fields (fields_as f bytes)) e

  rest_small : all_bytes rest ≡ true
  unfolding all_bytes behind_head
  rest_small = (all_split (λ b. ltb b 256) (1 + size_of f.head) bytes small).1

  tail_again : Writes f.tail (fields_as f bytes) rest
  unfolding fields_as
  tail_again = tail_writes (byte_at bytes 0) (read_groups f.head 1 bytes) f.tail rest c rest_small tests.1

  fits_again : fits_as f (fields_as f bytes) ≡ true
  unfolding fits_as fields_as
  fits_again = both (both (read_groups_fit f.head 1 bytes) tail_again.fits) tests.2

  size_again : length (bytes_as f (fields_as f bytes)) ≡ length bytes
  unfolding bytes_as behind_head
  size_again =
      let m = fields_as f bytes in
      let n = length-write_groups f.head m.numbers in
      let l = length-append (write_groups f.head m.numbers) (tail_bytes f.tail m) in
      let t = tail_again.same in
      let d = length-drop (1 + size_of f.head) bytes in
      let s = leb-true (1 + size_of f.head) (length bytes) tests.0 in
      omega arith

-- The theorems.
pub written_reads : (area : ℕ) (m : Message ℕ) (b : List ℕ) → written area (message m) ≡ sound b → read b ≡ sound m
unfolding held_bytes kind_of fits_held bytes_as sound_length
written_reads area m b e =
    let w = writable area (message m) b e in
    let f = form_of m.kind in
    let room = form_roomy m.kind in
    subst (λ bytes. read bytes ≡ sound m) w.bytes
    (read-sound (bytes_as f m) m
    (record {
      length = within-true 1 message_size (length (bytes_as f m)) (omega arith) w.size;
      kind = w.kind;
      sound = sound_back f m room w.fits;
      fields = message_back f m room w.fits;
    }))

pub read_writes : (bytes : List ℕ) (m : Message ℕ) (area : ℕ) → all_bytes bytes ≡ true → read bytes ≡ sound m → message_area ≤ area →
    (b : List ℕ) × (written area (message m) ≡ sound b)
unfolding held_bytes kind_of fits_held fields_as sound_length
read_writes bytes m area small e room =
    let r = readable bytes m e in
    let f = form_of (byte_at bytes 0) in
    let clean = form_cleanable (byte_at bytes 0) in
    let n = size_again f bytes clean small r.sound in
    let l = (within_bounds 1 message_size (length bytes) r.length).1 in
    let b = bytes_as f (fields_as f bytes) in
    let w : Writable area (message (fields_as f bytes)) b = record {
      room = room;
      size = omega arith;
      kind = r.kind;
      fits = fits_again f bytes clean small r.sound;
      bytes = refl;
    } in
    subst (λ m. (b : List ℕ) × (written area (message m) ≡ sound b)) r.fields (b, written-sound area (message (fields_as f bytes)) b w)

pub round_trip : (bytes : List ℕ) (m : Message ℕ) (area : ℕ) → all_bytes bytes ≡ true → read bytes ≡ sound m → message_area ≤ area →
    (b : List ℕ) × (written area (message m) ≡ sound b) × (read b ≡ sound m)
round_trip bytes m area small e room =
    let w = read_writes bytes m area small e room in
    (w.0, w.1, written_reads area m w.0 w.1)

pub unused_zero_lem : (area : ℕ) (h : Held) (b : List ℕ) → written area h ≡ sound b → unused_zero b ≡ true
unfolding held_bytes kind_of fits_held bytes_as unused_zero
unused_zero_lem area (message m) b e =
    let w = writable area (message m) b e in
    subst (λ bytes. unused_zero bytes ≡ true) w.bytes (zero_back (form_of m.kind) m (form_roomy m.kind) w.fits)
unused_zero_lem area (other kind body) b e = absurd (false≢true (writable area (other kind body) b e).fits)
