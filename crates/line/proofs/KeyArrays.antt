-- Keys that wait, in their array.
use mathlib.Core.Path.{◌≡◌, refl, sym, ap, ◌∙◌}
use Prim.Native.Nat.{ℕ, zero, suc, ◌+◌, ◌-◌, ◌≤◌, ◌<◌}
use native.Mathlib.Numerals.{add-one}
use native.Mathlib.Omega.{arith}
use mathlib.Core.Bool.{true, false}
use mathlib.Core.List.{List, [], ◌∷◌, ◌++◌}
use lib.Dec.{eqb, ltb}
use lib.ListN.{length, get_or, take, drop, set, length-set}
use Rattle.std.specs.List.{copy_within}
use borrow.Author.Tests.{ne_eqb, lt-ltb, le-ltb}
use Rattle.rules.specs.Choice.{is_empty}
use Rattle.line.specs.declared.acts.Act.{Act}
use Rattle.line.specs.declared.acts.Act.TheVariants.{Nothing, Stores, StoresQuoted, SendsOutOfBand, ClearsAtOnce, Quotes, Clears, FlipsDiscard}
use Rattle.line.specs.declared.acts.Act.TheVariants.{TakesToken, Takes, TimesOut, Idles, Obeys}
use Rattle.line.specs.declared.Key.{Key}
use Rattle.line.specs.View.{plain_key, quoted_key, no_key, key_of, keys_of}
use Rattle.line.specs.KeyArray.{shift, keys_after}

pub keys_length : (n : ℕ) (keys : List Key) → length (keys_of n keys) ≡ n
unfolding keys_of
keys_length zero keys = refl
keys_length (suc n) [] = ap suc (keys_length n [])
keys_length (suc n) (k ∷ keys) = ap suc (keys_length n keys)

pub keys_empty : (n : ℕ) (keys : List Key) → is_empty (keys_of n keys) ≡ eqb n 0
unfolding keys_of is_empty
keys_empty zero keys = refl
keys_empty (suc n) [] = sym (ne_eqb (suc n) 0 (λ e. omega arith))
keys_empty (suc n) (k ∷ keys) = sym (ne_eqb (suc n) 0 (λ e. omega arith))

-- one key more
stored : (n : ℕ) (k : Key) (keys : List Key) → n < length keys → keys_of (suc n) (set keys n k) ≡ keys_of n keys ++ key_of k ∷ []
unfolding keys_of
stored n k [] h = absurd (omega arith)
stored zero k (x ∷ keys) h = refl
stored (suc n) k (x ∷ keys) h = ap (λ ks. key_of x ∷ ks) (stored n k keys (omega arith))

pub stored_keys : (n : ℕ) (k : Key) (keys : List Key) → n < length keys → keys_of (n + 1) (set keys n k) ≡ keys_of n keys ++ key_of k ∷ []
stored_keys n k keys h = ap (λ i. keys_of i (set keys n k)) (add-one n) ∙ stored n k keys h

-- the first key, and those behind it
pub first_key : (n : ℕ) (keys : List Key) → 0 < n → keys_of n keys ≡ key_of (get_or keys 0 no_key) ∷ drop 1 (keys_of n keys)
unfolding keys_of
first_key zero keys h = absurd (omega arith)
first_key (suc n) [] h = refl
first_key (suc n) (k ∷ keys) h = refl

shifted : (n : ℕ) (keys : List Key) → suc n ≤ length keys → keys_of n (shift n keys) ≡ drop 1 (keys_of (suc n) keys)
unfolding keys_of shift
shifted n [] h = absurd (omega arith)
shifted zero (k ∷ keys) h = refl
shifted (suc n) (k ∷ []) h = absurd (omega arith)
shifted (suc n) (k ∷ next ∷ keys) h = ap (λ ks. key_of next ∷ ks) (shifted n (next ∷ keys) (omega arith))

pub first_gone : (n : ℕ) (keys : List Key) → 0 < n → n ≤ length keys → keys_of (n - 1) (shift (n - 1) keys) ≡ drop 1 (keys_of n keys)
first_gone zero keys h k = absurd (omega arith)
first_gone (suc n) keys h k =
    let e : suc n - 1 ≡ n = omega arith in ap (λ i. keys_of i (shift i keys)) e ∙ shifted n keys k

-- all keys but the first, copied a place further down
moved : (n : ℕ) (keys : List Key) → n < length keys → shift n keys ≡ take n (drop 1 keys) ++ drop n keys
unfolding shift
moved zero keys h = refl
moved (suc n) [] h = absurd (omega arith)
moved (suc n) (k ∷ []) h = absurd (omega arith)
moved (suc n) (k ∷ next ∷ keys) h = ap (λ l. next ∷ l) (moved n (next ∷ keys) (omega arith))

pub shift_moves : (waiting : ℕ) (keys : List Key) → 0 < waiting → waiting ≤ length keys → copy_within keys 1 waiting 0 ≡ shift (waiting - 1) keys
shift_moves waiting keys h k =
    let n = waiting - 1 in
    let front : 0 + n ≡ n = omega arith in
    ap (λ i. take n (drop 1 keys) ++ drop i keys) front ∙ sym (moved n keys (omega arith))

shift-length : (n : ℕ) (keys : List Key) → length (shift n keys) ≡ length keys
unfolding shift
shift-length zero keys = refl
shift-length (suc n) [] = refl
shift-length (suc n) (k ∷ []) = refl
shift-length (suc n) (k ∷ next ∷ keys) = ap suc (shift-length n (next ∷ keys))

-- The test for room.
module _ (n size : ℕ) (keys : List Key) where
  pub has_room : n < size → ltb (length (keys_of n keys)) size ≡ true
  has_room h = lt-ltb (length (keys_of n keys)) size (omega (arith, keys_length n keys))

  pub no_room : size ≤ n → ltb (length (keys_of n keys)) size ≡ false
  no_room h = le-ltb (length (keys_of n keys)) size (omega (arith, keys_length n keys))

-- an act leaves as many places as there were
pub after_length : (a : Act) (n : ℕ) (keys : List Key) → length (keys_after a n keys) ≡ length keys
after_length Nothing n keys = refl
after_length (Stores c) n keys = length-set keys n (plain_key c)
after_length (StoresQuoted c) n keys = length-set keys n (quoted_key c)
after_length (SendsOutOfBand c) n keys = refl
after_length (ClearsAtOnce c) n keys = refl
after_length Quotes n keys = refl
after_length Clears n keys = refl
after_length FlipsDiscard n keys = refl
after_length TakesToken n keys = refl
after_length (Takes k) n keys = shift-length (n - 1) keys
after_length TimesOut n keys = refl
after_length (Idles idle) n keys = refl
after_length (Obeys m) n keys = refl
