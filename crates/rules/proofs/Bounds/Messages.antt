-- Each message that the line sends fits, and how long it is; the answer to Read Characteristics is apart.
use mathlib.Core.Path.{◌≡◌, refl}
use Prim.Native.Nat.{ℕ, ◌+◌, ◌/◌, ◌^◌, ◌≤◌, ◌<◌}
use native.Mathlib.Nat.{mod-lt}
use native.Mathlib.Omega.{arith}
use mathlib.Core.Bool.{Bool, true}
use mathlib.Core.List.{List, [], ◌∷◌}
use lib.ListN.{length}
use borrow.Author.Tests.{le-leb}
use Rattle.rules.specs.Choice.{pick, within, bit, is_empty, all_are, joined}
use Rattle.rules.specs.Numbers.{message_size, input_size}
use Rattle.rules.specs.Messages.Layout.{fits, size_of, widths_of, fields_in, bytes_of}
use Rattle.rules.specs.Messages.Parameters.{initiation, limits_of, sound_parameter, fits_parameter}
use Rattle.rules.specs.Messages.Parameters as parameters
use Rattle.rules.specs.Messages.Forms.{nothing, forms, form_of, plain, read_data, out_of_band, write_completion, discard_state, input_count}
use Rattle.rules.specs.Messages.Codec.{defined_kind, defined_fields, all_bytes, tail_bytes, fits_tail, fits_as}
use Rattle.rules.specs.Host.{our_initiate}
use Rattle.rules.proofs.Choice.{both, pick_case}
use Rattle.rules.proofs.Bounds.Limits.{InLimits, width_limits, under-true, fits-true}
use Rattle.rules.proofs.Bounds.Sent.{Sent, sent_length}

pub bit_flag : (t : Bool) → bit t < 2
unfolding bit
bit_flag t = pick_case (λ (n : ℕ). n < 2) t (λ y. omega arith) (λ n. omega arith)

-- Messages that have a head alone.
plain_sent : (kind : ℕ) (numbers : List ℕ) → defined_kind kind ≡ true → (form_of kind).tail ≡ nothing →
    defined_fields (plain kind numbers) ≡ true → InLimits (width_limits (widths_of (form_of kind).head)) numbers →
    Sent (1 + size_of (form_of kind).head) (plain kind numbers)
unfolding fits_as fits_tail tail_bytes is_empty
plain_sent kind numbers defined alone fields head =
    let n = rw alone at (sent_length (plain kind numbers)) in
    let widths = fits-true (widths_of (form_of kind).head) numbers head in
    record {
      fit = record { kind = defined; fits = both (both widths (rw alone refl)) fields };
      size = omega arith;
    }

-- Out-of-Band with its character
pub out_of_band_sent : (c : ℕ) → c < 256 → Sent 3 (plain out_of_band (0 ∷ c ∷ []))
unfolding defined_kind within form_of forms defined_fields pick widths_of size_of
out_of_band_sent c h = plain_sent out_of_band (0 ∷ c ∷ []) refl refl refl (omega arith)

pub completion_sent : (lost : Bool) (column line : ℕ) → column < 256 → line < 256 → Sent 6 (plain write_completion (bit lost ∷ column ∷ line ∷ []))
unfolding defined_kind within form_of forms defined_fields pick widths_of size_of
completion_sent lost column line h k =
    let b = bit_flag lost in
    plain_sent write_completion (bit lost ∷ column ∷ line ∷ []) refl refl refl (omega arith)

pub discard_state_sent : (kept : Bool) → Sent 2 (plain discard_state (bit kept ∷ []))
unfolding defined_kind within form_of forms defined_fields pick widths_of size_of
discard_state_sent kept = let b = bit_flag kept in plain_sent discard_state (bit kept ∷ []) refl refl refl (omega arith)

pub input_count_sent : (n : ℕ) → n < 65536 → Sent 4 (plain input_count (n ∷ []))
unfolding defined_kind within form_of forms defined_fields pick widths_of size_of
input_count_sent n h = plain_sent input_count (n ∷ []) refl refl refl (omega arith)

-- Read Data, with its text
pub read_data_sent : (code more low line column position : ℕ) (text : List ℕ) {most : ℕ} →
    code ≤ 13 → more < 2 → low < 65536 → line < 256 → column < 256 → position < 65536 → all_bytes text ≡ true → 8 + length text ≤ most →
    Sent most
    (record {
      kind = read_data;
      numbers = code ∷ more ∷ low ∷ line ∷ column ∷ position ∷ [];
      set = [];
      parameters = [];
      text = text;
    })
unfolding defined_kind within form_of forms defined_fields pick widths_of size_of fits_as fits_tail tail_bytes is_empty
read_data_sent code more low line column position text c m l v h p bytes size =
    let numbers = code ∷ more ∷ low ∷ line ∷ column ∷ position ∷ [] in
    let n = sent_length (record { kind = read_data; numbers = numbers; set = []; parameters = []; text = text }) in
    let widths = fits-true (4 ∷ 1 ∷ 16 ∷ 8 ∷ 8 ∷ 16 ∷ []) numbers (omega arith) in
    record { fit = record { kind = refl; fits = both (both widths bytes) (le-leb code 13 c) }; size = omega arith }

-- Our Initiate: its parameters are words, whatever their values.
word_fits : (kind v : ℕ) → kind < 256 → fits_parameter initiation (kind ∷ 2 ∷ bytes_of 2 v) ≡ true
unfolding fits_parameter limits_of fields_in
word_fits kind v h =
    let low = mod-lt v {m = 2 ^ 8} (omega arith) in
    let high = mod-lt (v / 2 ^ 8) {m = 2 ^ 8} (omega arith) in
    under-true (256 ∷ 256 ∷ 256 ∷ 256 ∷ []) (kind ∷ 2 ∷ bytes_of 2 v) (omega arith)

pub initiate_sent : Sent 25 our_initiate
unfolding defined_kind within form_of forms defined_fields pick widths_of size_of fits_as fits_tail tail_bytes is_empty our_initiate all_are sound_parameter parameters.parameter_size limits_of joined fields_in fits
initiate_sent =
    let n = sent_length our_initiate in
    let words = both (word_fits 1 message_size (omega arith)) (both (word_fits 2 input_size (omega arith)) (both (word_fits 3 0x7FFE (omega arith)) refl)) in
    record { fit = record { kind = refl; fits = both (both refl (both (both words refl) refl)) refl }; size = omega arith }
