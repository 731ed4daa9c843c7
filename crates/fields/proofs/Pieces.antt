-- Parts of a slice that reach past its end, or up to it.
use mathlib.Core.Path.{◌≡◌, sym, ap, ◌∙◌}
use Prim.Native.Nat.{ℕ, ◌+◌, ◌-◌, ◌≤◌, min}
use native.Mathlib.Omega.{arith, min_cases}
use mathlib.Core.List.{List, []}
use lib.ListN.{length, take, drop, drop_of_length-le, length-drop}
use lib.Seq.{take_all, take-nil}

module _ (s : List ℕ) (at : ℕ) where
  pub none_behind : (n : ℕ) → length s ≤ at → take n (drop at s) ≡ []
  none_behind n h = ap (take n) (drop_of_length-le s h) ∙ take-nil n

  -- as many bytes as there are, or more
  pub all_behind : (n : ℕ) → length s ≤ at + n → take n (drop at s) ≡ drop at s
  all_behind n h = let d = length-drop at s in take_all n (drop at s) (omega arith)

-- Cut at the end, a place and an end say the same part.
module _ (s : List ℕ) {from : ℕ} (at : ℕ) (f : from ≡ min (length s) at) where
  pub rest_cut : take (length s - from) (drop from s) ≡ drop at s
  rest_cut =
      all_behind s from (length s - from) (omega arith) ∙
      min_cases (length s) at (drop from s ≡ drop at s)
      (λ h k. drop_of_length-le s (omega arith) ∙ sym (drop_of_length-le s h))
      (λ h k. ap (λ n. drop n s) (f ∙ k))

  pub piece_cut : {to : ℕ} (n : ℕ) → to ≡ min (length s) (at + n) → take (to - from) (drop from s) ≡ take n (drop at s)
  piece_cut {to} n t =
      min_cases (length s) at (take (to - from) (drop from s) ≡ take n (drop at s))
      (λ h k. none_behind s from (to - from) (omega arith) ∙ sym (none_behind s at n h))
      (λ h k.
      ap (λ i. take (to - from) (drop i s)) (f ∙ k) ∙
      min_cases (length s) (at + n) (take (to - from) (drop at s) ≡ take n (drop at s))
      (λ h' k'. all_behind s at (to - from) (omega arith) ∙ sym (all_behind s at n h'))
      (λ h' k'. let same : to - from ≡ n = omega arith in ap (λ i. take i (drop at s)) same))
