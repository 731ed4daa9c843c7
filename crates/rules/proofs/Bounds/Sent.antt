-- A message that fits: its type is defined and its fields fit their places. If it is no longer than a message may be, it reads back.
use mathlib.Core.Path.{◌≡◌, refl, ap}
use Prim.Native.Nat.{ℕ, ◌+◌, ◌≤◌}
use native.Mathlib.Nat.{le_refl}
use native.Mathlib.Omega.{arith}
use mathlib.Core.Bool.{true}
use mathlib.Core.List.{List, [], ◌∷◌, ◌++◌, map}
use lib.ListN.{length, length-append}
use Rattle.rules.specs.Choice.{joined}
use Rattle.rules.specs.Numbers.{message_size, message_area}
use Rattle.rules.specs.Messages.Layout.{size_of, write_groups, bytes_of, framed}
use Rattle.rules.specs.Messages.Forms.{Message, form_of}
use Rattle.rules.specs.Messages.Codec as codec
use Rattle.rules.specs.Messages.Codec.{sound, defined_kind, read, all_bytes, tail_bytes, bytes_as, fits_as, message, kind_of, fits_held}
use Rattle.rules.specs.State.{codes}
use Rattle.rules.specs.Calls.{map_text, sent_bytes}
use Rattle.rules.specs.Bounds.{AllMeant}
use Rattle.rules.proofs.Fields.{length_bytes_of, length-write_groups}
use Rattle.rules.proofs.Outcomes.{writable, written-sound}
use Rattle.rules.proofs.Numbers.{message_room}
use Rattle.rules.proofs.RoundTrip.{written_reads, read_writes}

pub record Fit (m : Message ℕ) : Type 0 where
  pub kind : defined_kind m.kind ≡ true
  pub fits : fits_as (form_of m.kind) m ≡ true

-- and takes at most so many bytes
pub record Sent (most : ℕ) (m : Message ℕ) : Type 0 where
  pub fit : Fit m
  pub size : length (sent_bytes m) ≤ most

abbrev pub AllFit : List (Message ℕ) → Type 0
AllFit [] = Unit {0}
AllFit (m ∷ ms) = Fit m × AllFit ms

pub all_fit_append : (ms ns : List (Message ℕ)) → AllFit ms → AllFit ns → AllFit (ms ++ ns)
all_fit_append [] ns h k = k
all_fit_append (m ∷ ms) ns h k = (h.0, all_fit_append ms ns h.1 k)

-- How many bytes a message takes.
pub sent_length : (m : Message ℕ) →
    length (sent_bytes m) ≡ 1 + size_of (form_of m.kind).head + length (tail_bytes (form_of m.kind).tail m)
unfolding sent_bytes bytes_as
sent_length m =
    let head = write_groups (form_of m.kind).head m.numbers in
    let n = length-write_groups (form_of m.kind).head m.numbers in
    let l = length-append head (tail_bytes (form_of m.kind).tail m) in
    omega arith

pub framed-length : (bytes : List ℕ) → length (framed bytes) ≡ 2 + length bytes
unfolding framed
framed-length bytes =
    let n = length_bytes_of 2 (length bytes) in
    let l = length-append (bytes_of 2 (length bytes)) bytes in
    omega arith

-- The message area of two lists of messages.
joined-map_append : {A : Type 0} (f : A → List ℕ) (xs ys : List A) →
    length (joined (map f (xs ++ ys))) ≡ length (joined (map f xs)) + length (joined (map f ys))
unfolding joined
joined-map_append f [] ys = omega arith
joined-map_append f (x ∷ xs) ys =
    let rest = joined-map_append f xs ys in
    let l = length-append (f x) (joined (map f (xs ++ ys))) in
    let r = length-append (f x) (joined (map f xs)) in
    omega arith

abbrev pub area_of : List (Message ℕ) → ℕ
area_of ms = length (joined (map (λ m. framed (sent_bytes (map_text codes.code m))) ms))

pub area_append : (ms ns : List (Message ℕ)) → area_of (ms ++ ns) ≡ area_of ms + area_of ns
area_append ms ns = joined-map_append (λ m. framed (sent_bytes (map_text codes.code m))) ms ns

pub map_same : (ns : List ℕ) → map (λ n. n) ns ≡ ns
map_same [] = refl
map_same (n ∷ ns) = ap (λ r. n ∷ r) (map_same ns)

pub map_text_same : (m : Message ℕ) → map_text (λ n. n) m ≡ m
unfolding map_text
map_text_same m = λ i. record { kind = m.kind; numbers = m.numbers; set = m.set; parameters = m.parameters; text = map_same m.text i }

pub area_one : (m : Message ℕ) → area_of (m ∷ []) ≡ 2 + length (sent_bytes m)
unfolding joined
area_one m =
    let l = length-append (framed (sent_bytes (map_text codes.code m))) [] in
    let f = framed-length (sent_bytes (map_text codes.code m)) in
    let s = ap (λ k. length (sent_bytes k)) (map_text_same m) in
    omega arith

-- A message that fits can be written, so it reads as what was meant.
sent_meant : (m : Message ℕ) → Sent message_size m → read (sent_bytes m) ≡ sound m
unfolding codec.held_bytes kind_of fits_held sent_bytes
sent_meant m h =
    written_reads message_area m (sent_bytes m)
    (written-sound message_area (message m) (sent_bytes m)
    (record { room = le_refl message_area; size = h.size; kind = h.fit.kind; fits = h.fit.fits; bytes = refl }))

pub area_meant : (ms : List (Message ℕ)) → AllFit ms → area_of ms ≤ message_area → AllMeant ms
area_meant [] h room = tt
area_meant (m ∷ ms) h room =
    let both = area_append (m ∷ []) ms in
    let one = area_one m in
    let most = message_room in
    (sent_meant m (record { fit = h.0; size = omega arith }), area_meant ms h.1 (omega arith))

-- A message that was read can be written again, so it fits.
pub read_sent : (bytes : List ℕ) (m : Message ℕ) → all_bytes bytes ≡ true → read bytes ≡ sound m → Sent message_size m
unfolding codec.held_bytes kind_of fits_held sent_bytes
read_sent bytes m small e =
    let w = read_writes bytes m message_area small e (le_refl message_area) in
    let h = writable message_area (message m) w.0 w.1 in
    record { fit = record { kind = h.kind; fits = h.fits }; size = h.size }
