-- What is known of a message that was received and fits: its head, its lists, its values.
use mathlib.Core.Path.{◌≡◌, refl, sym, ap, subst, ◌∙◌}
use Prim.Native.Nat.{ℕ, zero, suc, ◌+◌, ◌-◌, ◌≤◌, ◌<◌}
use native.Mathlib.Omega.{arith}
use mathlib.Core.Bool.{Bool, true, ◌&&◌}
use mathlib.Core.List.{List, [], ◌∷◌}
use lib.Dec.{leb, eqb}
use lib.ListN.{length, get_or}
use borrow.Author.Tests.{leb-true, eqb-true, eq-eqb}
use Rattle.rules.specs.Choice.{is_empty}
use Rattle.rules.specs.Numbers.{input_size, message_size}
use Rattle.rules.specs.Messages.Layout.{byte_values, fits, size_of, widths_of}
use Rattle.rules.specs.Messages.Forms.{Message, forms, form_of, start_read, write}
use Rattle.rules.specs.Messages.Codec.{all_bytes, defined_fields, tail_bytes, fits_tail, fits_as, set_size}
use Rattle.rules.specs.Messages.Fields.{prefix_value, postfix_value}
use Rattle.rules.specs.StartRead.{sound_fields, sound_start_read, underflow, vertical, continues, raises, disables, set_choice, escapes}
use Rattle.rules.specs.StartRead.{max_length, end_of_data, timeout, end_of_prompt, start_of_display, low_water}
use Rattle.rules.specs.State.{State}
use Rattle.rules.specs.Calls.{passes_test, carries_start_read, sent_bytes}
use Rattle.rules.proofs.Choice.{pick_true, halves, thirds, quarters}
use Rattle.rules.proofs.Bounds.Limits.{fits_at}
use Rattle.rules.proofs.Bounds.Sent.{Fit, Sent, sent_length}

-- Tests joined by `&&`, one by one.
abbrev joint : Bool → List Bool → Bool
joint t [] = t
joint t (b ∷ bs) = joint (t && b) bs

joint_at : (t : Bool) (bs : List Bool) → joint t bs ≡ true → (k : ℕ) → get_or (t ∷ bs) k true ≡ true
joint_at t [] e zero = e
joint_at t [] e (suc k) = refl
joint_at t (b ∷ bs) e zero = (halves t b (joint_at (t && b) bs e 0)).0
joint_at t (b ∷ bs) e (suc zero) = (halves t b (joint_at (t && b) bs e 0)).1
joint_at t (b ∷ bs) e (suc (suc k)) = joint_at (t && b) bs e (suc k)

-- the parts of what fits, by its type
pub fit_parts : (m : Message ℕ) (kind : ℕ) → m.kind ≡ kind → Fit m →
    (fits (widths_of (form_of kind).head) m.numbers ≡ true) × (fits_tail (form_of kind).tail m ≡ true) × (defined_fields m ≡ true)
unfolding fits_as
fit_parts m kind e h =
    thirds (fits (widths_of (form_of kind).head) m.numbers) (fits_tail (form_of kind).tail m) (defined_fields m)
    (subst (λ k. fits_as (form_of k) m ≡ true) e h.fits)

-- A Write's data is no longer than a message.
pub write-text : (m : Message ℕ) → m.kind ≡ write → Sent message_size m → length m.text ≤ message_size
unfolding form_of forms tail_bytes
write-text m e h =
    let n = subst (λ k. length (sent_bytes m) ≡ 1 + size_of (form_of k).head + length (tail_bytes (form_of k).tail m)) e (sent_length m) in
    let l = h.size in
    omega arith

-- and its prefix and postfix values are bytes
pub write_values : (m : Message ℕ) → m.kind ≡ write → Fit m → (prefix_value m < byte_values) × (postfix_value m < byte_values)
unfolding form_of forms widths_of
write_values m e h =
    let head = (fit_parts m write e h).0 in
    let at = fits_at (widths_of (form_of write).head) m.numbers in
    (at 9 head (omega arith), at 10 head (omega arith))

-- A line's Start Read test, of one that passes without a line: its largest read alone.
pub start_passes : (s : State ℕ) (m : Message ℕ) → m.kind ≡ start_read → defined_fields m ≡ true → passes_test s m ≡ leb (max_length m) s.host.largest_read
unfolding passes_test defined_fields sound_start_read
start_passes s m e d =
    let is = eq-eqb m.kind start_read e in
    let h = halves (sound_fields m) (leb (max_length m) input_size) (sym (pick_true _ _ is) ∙ d) in
    pick_true _ _ is ∙ ap (λ fields. fields && leb (max_length m) s.host.largest_read) h.0

-- A Start Read that is carried.
pub record AcceptedStartRead (m : Message ℕ) : Type 0 where
  pub underflow : underflow m ≤ 2
  pub disables : disables m ≤ 3
  pub prompt : end_of_prompt m ≤ end_of_data m
  pub low_water : low_water m ≤ end_of_data m
  pub room : end_of_data m ≤ max_length m
  pub largest : max_length m ≤ input_size
  pub text : length m.text ≡ end_of_data m
  pub timeout : timeout m < 65536
  pub set_length : length m.set ≤ 32
  pub set_bytes : all_bytes m.set ≡ true
  pub text_bytes : all_bytes m.text ≡ true

pub accepted_start_read : (m : Message ℕ) → m.kind ≡ start_read → carries_start_read m ≡ true → Fit m → AcceptedStartRead m
unfolding form_of forms widths_of fits_tail defined_fields sound_fields sound_start_read carries_start_read
accepted_start_read m e carried h =
    let parts = fit_parts m start_read e h in
    let tail = quarters (leb (length m.set) set_size) (all_bytes m.set) (is_empty m.parameters) (all_bytes m.text) parts.1 in
    let whole = eqb-true (start_of_display m) 0 (thirds (eqb (start_of_display m) 0) (eqb (continues m) 0) (eqb (vertical m) 0) carried).0 in
    let passed = sym (pick_true _ _ (eq-eqb m.kind start_read e)) ∙ parts.2 in
    let test = joint_at (leb (underflow m) 2)
    (leb (raises m) 2 ∷ leb (set_choice m) 2 ∷ leb (escapes m) 2 ∷ leb (disables m) 3 ∷
    leb (end_of_prompt m) (end_of_data m) ∷ leb (low_water m) (end_of_data m) ∷ leb (start_of_display m) (end_of_data m) ∷
    leb (end_of_data m) (max_length m) ∷ eqb (length m.text) (end_of_data m - start_of_display m) ∷
    leb (max_length m) input_size ∷ []) passed in
    let text = eqb-true (length m.text) (end_of_data m - start_of_display m) (test 9) in
    record {
      underflow = leb-true (underflow m) 2 (test 0);
      disables = leb-true (disables m) 3 (test 4);
      prompt = leb-true (end_of_prompt m) (end_of_data m) (test 5);
      low_water = leb-true (low_water m) (end_of_data m) (test 6);
      room = leb-true (end_of_data m) (max_length m) (test 8);
      largest = leb-true (max_length m) input_size (test 10);
      text = omega arith;
      timeout = fits_at (widths_of (form_of start_read).head) m.numbers 14 parts.0 (omega arith);
      set_length = leb-true (length m.set) set_size tail.0;
      set_bytes = tail.1;
      text_bytes = tail.3;
    }
