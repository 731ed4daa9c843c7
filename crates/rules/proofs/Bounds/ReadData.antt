-- A read completes within bounds: Read Data's answer fits.
use mathlib.Core.Path.{◌≡◌}
use Prim.Native.Nat.{ℕ, ◌+◌, ◌-◌, ◌≤◌}
use native.Mathlib.Omega.{arith}
use mathlib.Core.Bool.{Bool, true, false}
use mathlib.Core.List.{[]}
use mathlib.Core.Option.{none}
use lib.ListN.{length}
use Rattle.rules.specs.Choice.{bit}
use Rattle.rules.specs.Numbers.{input_size}
use Rattle.rules.specs.Messages.Codec.{all_bytes}
use Rattle.rules.specs.State.{Typed, Reading, State, codes}
use Rattle.rules.specs.Turns.{only}
use Rattle.rules.specs.ReadData.{by_full_buffer, more_data, read_data_of, loses_partial, sends_read_data, ends_read, completes}
use Rattle.rules.specs.Editing.{end_of}
use Rattle.rules.specs.Bounds.{BoundedTyped, BoundedReading, BoundedRead}
use Rattle.rules.proofs.Numbers.{input_word}
use Rattle.rules.proofs.Bounds.Bytes.{no_bytes}
use Rattle.rules.proofs.Bounds.Screen.{change_byte}
use Rattle.rules.proofs.Bounds.Sent.{Sent}
use Rattle.rules.proofs.Bounds.Turns.{OfRead, Steady, Good, Fine, fine, answer_area, retyped, reread}
use Rattle.rules.proofs.Bounds.Turns.{changes_good, sends_good, tells_then, quiet_then, then_quiet, only_good}
use Rattle.rules.proofs.Bounds.Messages.{bit_flag, read_data_sent}

-- What an answer asks of its read: that its buffer is no larger than the line's.
pub record Answerable (r : Reading ℕ) : Type 0 where
  pub input : length r.input ≤ input_size
  pub low_water : r.low_water ≤ input_size
  pub bytes : all_bytes r.input ≡ true

pub bounded_answerable : (r : Reading ℕ) → BoundedReading r → Answerable r
unfolding end_of
bounded_answerable r h = record { input = omega arith; low_water = omega arith; bytes = h.input_bytes }

answer_sent : (code ending : ℕ) (r : Reading ℕ) (s : State ℕ) → code ≤ 13 → Answerable r → Sent (8 + input_size) (read_data_of codes code ending r s)
unfolding read_data_of
answer_sent code ending r s c h =
    let w = input_word in
    read_data_sent code (bit (more_data codes s)) r.low_water _ _ (length r.input - ending) r.input
    c (bit_flag (more_data codes s)) (omega arith) (change_byte _ _) (change_byte _ _) (omega arith) h.bytes (omega arith)

-- the token gone
pub emptied : {t : Typed ℕ} → BoundedTyped t → BoundedTyped (record { type_ahead = t.type_ahead; token = [] })
emptied b = record { type_ahead = b.type_ahead; token = omega arith; key_bytes = b.key_bytes; token_bytes = no_bytes }

loses_good : {R : OfRead} {bytes area : ℕ} {s : State ℕ} → Steady R s → Good R bytes area (loses_partial codes s)
unfolding loses_partial
loses_good h = only_good _ _ (λ y. tells_then _ _ (changes_good _ (retyped h (emptied h.typed)))) (λ n. h)

-- A completion, whatever read was pending: none is afterwards.
pub completes_good : {R : OfRead} {bytes : ℕ} {s : State ℕ} (code ending : ℕ) (r : Reading ℕ) → code ≤ 13 → Answerable r → Steady R s →
    Good BoundedRead bytes answer_area (completes codes code ending r s)
unfolding completes sends_read_data ends_read
completes_good code ending r c a h =
    quiet_then _ _ (loses_good h) λ s₁ h₁.
    then_quiet _ _ (sends_good _ (answer_sent code ending r s₁ c a) (omega arith) h₁) λ s₂ h₂.
    changes_good _ (reread h₂ none tt)

pub completes_fine : {R : OfRead} {s : State ℕ} (code ending : ℕ) (r : Reading ℕ) → code ≤ 13 → Answerable r → Steady R s →
    Fine (completes codes code ending r s)
completes_fine code ending r c a h = fine 0 answer_area (omega arith) (omega arith) (completes_good code ending r c a h)

-- A buffer that may be full, by a test: then the read completes.
abbrev pub Unless : Bool → OfRead
Unless full o = full ≡ false → BoundedRead o

pub completes_full : {bytes : ℕ} {s : State ℕ} (full : Bool) (r : Reading ℕ) → Answerable r → Steady (Unless full) s →
    Good BoundedRead bytes answer_area (only full (completes codes by_full_buffer 0 r) s)
completes_full full r a h =
    only_good full _ (λ y. completes_good by_full_buffer 0 r (omega arith) a h) λ n.
    record { host = h.host; terminal = h.terminal; typed = h.typed; pending_read = h.pending_read n }
