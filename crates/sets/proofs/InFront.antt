-- A text put to the front of an array.
use mathlib.Core.Path.{◌≡◌, sym, ap, ◌∙◌}
use Prim.Native.Nat.{ℕ, ◌≤◌, min}
use native.Mathlib.Omega.{arith, min_cases}
use mathlib.Core.List.{List, ◌++◌}
use lib.ListN.{length, take, drop, length-append, length-drop}
use lib.Seq.{take_all, take-length, take-append_seam}

module _ (s area : List ℕ) {area' : List ℕ} {n : ℕ} (count : n ≡ length s) (e : area' ≡ take (length s) s ++ drop (length s) area) where
  whole : area' ≡ s ++ drop (length s) area
  whole = e ∙ ap (λ l. l ++ drop (length s) area) (take-length s)

  pub in_front : take n area' ≡ s
  in_front = rw (whole, count) (take-append_seam s (drop (length s) area))

  pub in_front_length : {size : ℕ} → length area ≡ size → length s ≤ size → length area' ≡ size
  in_front_length same fits =
      let sum = length-append s (drop (length s) area) in
      let rest = length-drop (length s) area in
      ap length whole ∙ omega arith

-- as many as there are, or so many
pub take_cut : (s : List ℕ) {n : ℕ} (size : ℕ) → n ≡ min (length s) size → take n s ≡ take size s
take_cut s {n} size e =
    min_cases (length s) size (take n s ≡ take size s)
    (λ h k. take_all n s (omega arith) ∙ sym (take_all size s h))
    (λ h k. ap (λ i. take i s) (e ∙ k))
