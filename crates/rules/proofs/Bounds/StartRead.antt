-- Start Read within bounds: the read that begins, and what acceptance does.
use mathlib.Core.Path.{◌≡◌, refl}
use Prim.Native.Nat.{ℕ, ◌+◌, ◌*◌, ◌≤◌}
use native.Mathlib.Omega.{arith}
use mathlib.Core.Bool.{Bool, true}
use mathlib.Core.List.{List}
use mathlib.Core.Option.{some}
use lib.Dec.{eqb}
use lib.ListN.{length, take, drop, length-take, length-drop, length-map}
use borrow.Author.Tests.{eqb-false}
use Rattle.rules.specs.Choice.{bit, all_are}
use Rattle.rules.specs.Numbers.{input_size, top_column}
use Rattle.rules.specs.Messages.Forms.{Message}
use Rattle.rules.specs.Messages.Codec.{all_bytes}
use Rattle.rules.specs.State.{State, codes, with_display_column}
use Rattle.rules.specs.Editing.{end_of}
use Rattle.rules.specs.StartRead as fields
use Rattle.rules.specs.StartRead.{universal, chosen_set}
use Rattle.rules.specs.StartRead.Acceptance.{shown_prompt, data_behind, hides_input, hides_lf, opened_terms, opened_read, remembers_set, clears_first, feeds_line, auto_prompts, completes_if_full, begins, starts_read}
use Rattle.rules.specs.Bounds.{BoundedTerms, BoundedRead}
use Rattle.rules.proofs.Choice.{pick_case}
use Rattle.rules.proofs.Bounds.Bytes.{bytes_drop}
use Rattle.rules.proofs.Bounds.Turns.{Steady, Good, Fine, fine, answer_area, rehosted}
use Rattle.rules.proofs.Bounds.Turns.{changes_good, writes_good, then_good, quiet_then, then_quiet, writes_sends, only_good}
use Rattle.rules.proofs.Bounds.Sent.{map_same}
use Rattle.rules.proofs.Bounds.ReadData.{Answerable, Unless, completes_full}
use Rattle.rules.proofs.Bounds.Editing.{displays_good}
use Rattle.rules.proofs.Bounds.Arrival.{empties_typed_good}
use Rattle.rules.proofs.Bounds.Received.{AcceptedStartRead}

-- A termination set: at most 32 bytes.
abbrev SetBounded : List ℕ → Type 0
SetBounded set = (length set ≤ 32) × (all_bytes set ≡ true)

chosen_set_bounded : (last : List ℕ) (m : Message ℕ) → SetBounded last → SetBounded m.set → SetBounded (chosen_set last m)
unfolding chosen_set universal all_bytes all_are
chosen_set_bounded last m h k = pick_case SetBounded _ (λ y. h) λ n. pick_case SetBounded _ (λ y. k) λ n. (omega arith, refl)

module _ (m : Message ℕ) (known : AcceptedStartRead m) {s : State ℕ} (h : Steady BoundedRead s) where
  terms_bounded : BoundedTerms (opened_terms codes m s)
  unfolding opened_terms shown_prompt
  terms_bounded =
      let front = take (fields.end_of_prompt m) m.text in
      let n = length-take (fields.end_of_prompt m) m.text in
      let d = length-drop (bit (hides_lf m)) front in
      let set = chosen_set_bounded s.host.last_set m (h.host.set_length, h.host.set_bytes) (known.set_length, known.set_bytes) in
      record {
        largest = known.largest;
        prompt = omega arith;
        set_length = set.0;
        set_bytes = set.1;
        underflow = known.underflow;
        disables = known.disables;
        timeout = known.timeout;
      }

  -- what stands behind the prompt
  input_bytes_lem : all_bytes (opened_read codes m s).input ≡ true
  unfolding opened_read data_behind hides_input
  input_bytes_lem = rw map_same (bytes_drop (fields.end_of_prompt m) m.text known.text_bytes)

  input-length : fields.end_of_prompt m + length (opened_read codes m s).input ≡ fields.end_of_data m
  unfolding opened_read data_behind hides_input
  input-length =
      let back = drop (fields.end_of_prompt m) m.text in
      let n = length-map back codes.given in
      let d = length-drop (fields.end_of_prompt m) m.text in
      let p = known.prompt in
      let t = known.text in
      omega arith

  reading_answerable : Answerable (opened_read codes m s)
  unfolding opened_read data_behind hides_input
  reading_answerable = let n = input-length in record { input = omega arith; low_water = omega arith; bytes = input_bytes_lem }

  abbrev full : Bool
  full = eqb (fields.end_of_data m) (fields.max_length m)

  reading_bounded : (column : ℕ) → column ≤ top_column → Unless full (some (with_display_column column (opened_read codes m s)))
  unfolding opened_read data_behind hides_input opened_terms shown_prompt end_of
  reading_bounded column top n =
      let end = input-length in
      let more = eqb-false (fields.end_of_data m) (fields.max_length m) n in
      record {
        terms = terms_bounded;
        room = omega arith;
        low_water = omega arith;
        input_bytes = input_bytes_lem;
        idle = λ timed due. due;
        display_column = top;
      }

  begins_good : Good BoundedRead (2 + 8 * input_size) answer_area (begins codes m (opened_read codes m s) s)
  unfolding begins clears_first feeds_line auto_prompts completes_if_full opened_read data_behind hides_input opened_terms shown_prompt
  begins_good =
      let r = opened_read codes m s in
      let t = terms_bounded in
      let n = input-length in
      quiet_then _ _ (only_good _ _ (λ y. empties_typed_good h) (λ n. h)) λ s₁ h₁.
      then_good _ _ 1 (1 + 8 * input_size) 0 answer_area (omega arith) (omega arith)
      (only_good _ _ (λ y. writes_good _ (omega arith) h₁) (λ n. h₁)) λ s₂ h₂.
      then_good _ _ 1 (8 * input_size) 0 answer_area (omega arith) (omega arith)
      (only_good _ _ (λ y. writes_good _ (omega arith) h₂) (λ n. h₂)) λ s₃ h₃.
      writes_sends _ _ (displays_good r reading_bounded (omega arith) h₃) λ s₄ h₄.
      completes_full full r reading_answerable h₄

  pub starts_read_fine : Fine (starts_read codes m s)
  unfolding starts_read remembers_set
  starts_read_fine =
      fine (2 + 8 * input_size) answer_area (omega arith) (omega arith)
      (then_quiet _ _ begins_good λ s₁ h₁.
      only_good _ _
      (λ y. changes_good _ (rehosted h₁ (record {
        table = h₁.host.table;
        attributes = h₁.host.attributes;
        set_length = known.set_length;
        set_bytes = known.set_bytes;
        largest_read = h₁.host.largest_read;
      })))
      (λ n. h₁))
