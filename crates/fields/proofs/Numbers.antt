-- Numbers in a slice, a byte at a time.
use mathlib.Core.Path.{◌≡◌, refl, ap, ap₂, ◌∙◌}
use Prim.Native.Nat.{ℕ, suc, ◌+◌, ◌*◌}
use native.Mathlib.Nat.{add-zero}
use mathlib.Core.List.{List}
use lib.ListN.{drop, replicate}
use lib.Seq.{get_or-drop, drop-drop}
use native.Mathlib.Omega.{arith}
use Rattle.rules.specs.Messages.Layout.{byte_at, number_of, number_at}

pub byte_behind : (s : List ℕ) (at : ℕ) → byte_at (drop at s) 0 ≡ byte_at s at
byte_behind s at = get_or-drop at s 0 0 ∙ ap (byte_at s) (add-zero at)

-- one byte more is one digit more
pub number_more : (n at : ℕ) (s : List ℕ) → number_at (suc n) at s ≡ byte_at s at + 256 * number_at n (at + 1) s
unfolding number_of
number_more n at s = ap₂ (λ b r. b + 256 * r) (byte_behind s at) (ap (number_of (replicate n 8)) (drop-drop 1 at s))

pub number_none : (at : ℕ) (s : List ℕ) → number_at 0 at s ≡ 0
unfolding number_of
number_none at s = refl

pub number_one : (at : ℕ) (s : List ℕ) → number_at 1 at s ≡ byte_at s at
number_one at s = number_more 0 at s ∙ (let z = number_none (at + 1) s in omega arith)

pub number_two : (at : ℕ) (s : List ℕ) → number_at 2 at s ≡ byte_at s at + 256 * byte_at s (at + 1)
number_two at s = number_more 1 at s ∙ ap (λ r. byte_at s at + 256 * r) (number_one (at + 1) s)
