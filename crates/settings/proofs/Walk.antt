-- A walk of the sections: what each part of it is, and what a turn and the end of each loop leave.
use mathlib.Core.Path.{◌≡◌, refl, sym, ap, ◌∙◌}
use Prim.Native.Nat.{ℕ, zero, suc, ◌+◌, ◌-◌, ◌≤◌, ◌<◌, min}
use mathlib.Core.Bool.{false, ◌&&◌}
use mathlib.Core.List.{List}
use native.Mathlib.Omega.{arith}
use lib.Dec.{eqb}
use lib.ListN.{length, take, drop}
use borrow.Author.Tests.{le-leb, lt-leb}
use Rattle.rules.specs.Messages.Layout.{word_bytes}
use Rattle.rules.specs.Settings.{section_length, front_section, behind_section, are_whole, section_behind}
use Rattle.rules.proofs.Choice.{empty_length}
use Rattle.fields.proofs.Pieces.{all_behind, rest_cut}

behind_from : (s : List ℕ) {end : ℕ} → end ≡ min (length s) (word_bytes + section_length s) → take (length s - end) (drop end s) ≡ behind_section s
unfolding behind_section
behind_from s e = rest_cut s (word_bytes + section_length s) e

behind_whole : (s : List ℕ) {end : ℕ} → end ≡ word_bytes + section_length s → take (length s - end) (drop end s) ≡ behind_section s
unfolding behind_section
behind_whole s {end} e = all_behind s end (length s - end) (omega arith) ∙ ap (λ n. drop n s) e

-- The loop of are_whole.
pub whole_stops : (left : ℕ) (s : List ℕ) {end : ℕ} → 0 < left → end ≡ word_bytes + section_length s → length s < end → are_whole left s ≡ false
unfolding are_whole
whole_stops zero s p e h = absurd (omega arith)
whole_stops (suc n) s {end} p e h = ap (λ t. t && are_whole n (behind_section s)) (lt-leb (word_bytes + section_length s) (length s) (omega arith))

pub whole_goes_on : (left : ℕ) (s : List ℕ) {end : ℕ} → 0 < left → end ≡ word_bytes + section_length s → end ≤ length s →
    are_whole (left - 1) (take (length s - end) (drop end s)) ≡ are_whole left s
unfolding are_whole
whole_goes_on zero s p e h = absurd (omega arith)
whole_goes_on (suc n) s {end} p e h =
    let one : suc n - 1 ≡ n = omega arith in
    (λ i. are_whole (one i) (behind_whole s e i)) ∙
    sym (ap (λ t. t && are_whole n (behind_section s)) (le-leb (word_bytes + section_length s) (length s) (omega arith)))

pub whole_end : (left : ℕ) (s : List ℕ) → left ≤ 0 → eqb (length s) 0 ≡ are_whole left s
unfolding are_whole
whole_end zero s h = sym (empty_length s)
whole_end (suc n) s h = absurd (omega arith)

-- The loop of section_behind.
pub section_goes_on : (left : ℕ) (s : List ℕ) {end : ℕ} → 0 < left → end ≡ min (length s) (word_bytes + section_length s) →
    section_behind (left - 1) (take (length s - end) (drop end s)) ≡ section_behind left s
unfolding section_behind
section_goes_on zero s p e = absurd (omega arith)
section_goes_on (suc n) s {end} p e =
    let one : suc n - 1 ≡ n = omega arith in
    λ i. section_behind (one i) (behind_from s e i)

pub section_end : (left : ℕ) (s : List ℕ) → left ≤ 0 → front_section s ≡ section_behind left s
unfolding section_behind
section_end zero s h = refl
section_end (suc n) s h = absurd (omega arith)
