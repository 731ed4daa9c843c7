-- Lists of bytes: one byte, two lists, a part of a list, a number.
use mathlib.Core.Path.{◌≡◌, refl}
use Prim.Native.Nat.{ℕ, zero, suc, ◌/◌, ◌%◌, ◌≤◌, ◌<◌}
use native.Mathlib.Nat.{mod-lt}
use native.Mathlib.Omega.{arith}
use mathlib.Core.Bool.{true}
use mathlib.Core.List.{List, [], ◌∷◌, ◌++◌}
use lib.ListN.{length, take, drop, replicate, take-append-drop}
use borrow.Author.Tests.{ltb-true, lt-ltb}
use Rattle.rules.specs.Choice.{all_are}
use Rattle.rules.specs.Messages.Layout.{byte_bits, word_bytes, byte_values, word_values, byte_at, fields_in, number_of, fits, number_at, bytes_of}
use Rattle.rules.specs.Messages.Codec.{all_bytes}
use Rattle.rules.proofs.Choice.{both, all_cons, all_append, all_split}
use Rattle.rules.proofs.Fields.{fields_back}

pub no_bytes : all_bytes [] ≡ true
unfolding all_bytes all_are
no_bytes = refl

pub one_byte : (n : ℕ) → n < 256 → all_bytes (n ∷ []) ≡ true
unfolding all_bytes all_are
one_byte n h = both (lt-ltb n 256 h) refl

-- what each of its places says
pub bytes_all : (bytes : List ℕ) → ((i : ℕ) → byte_at bytes i < byte_values) → all_bytes bytes ≡ true
unfolding all_bytes all_are
bytes_all [] h = refl
bytes_all (b ∷ bytes) h = both (lt-ltb b byte_values (h zero)) (bytes_all bytes (λ i. h (suc i)))

pub bytes_append : (ns ks : List ℕ) → all_bytes ns ≡ true → all_bytes ks ≡ true → all_bytes (ns ++ ks) ≡ true
unfolding all_bytes
bytes_append ns ks h k = rw all_append (both h k)

pub bytes_take : (n : ℕ) (ns : List ℕ) → all_bytes ns ≡ true → all_bytes (take n ns) ≡ true
unfolding all_bytes
bytes_take n ns h = (all_split _ n ns h).0

pub bytes_drop : (n : ℕ) (ns : List ℕ) → all_bytes ns ≡ true → all_bytes (drop n ns) ≡ true
unfolding all_bytes
bytes_drop n ns h = (all_split _ n ns h).1

-- a number is written in bytes
pub number_bytes : (n v : ℕ) → all_bytes (bytes_of n v) ≡ true
unfolding fields_in all_bytes all_are
number_bytes zero v = refl
number_bytes (suc n) v = both (lt-ltb (v % byte_values) byte_values (mod-lt v (omega arith))) (number_bytes n (v / byte_values))

-- and the bytes in front of a list are those of the number in them
bytes_fit : (n : ℕ) (bytes : List ℕ) → all_bytes bytes ≡ true → n ≤ length bytes → fits (replicate n byte_bits) (take n bytes) ≡ true
unfolding fits all_bytes all_are
bytes_fit zero bytes e h = refl
bytes_fit (suc n) [] e h = absurd (omega arith)
bytes_fit (suc n) (b ∷ bytes) e h = let t = all_cons _ b bytes e in both t.0 (bytes_fit n bytes t.1 (omega arith))

pub front_bytes : (n : ℕ) (bytes : List ℕ) → all_bytes bytes ≡ true → n ≤ length bytes → bytes_of n (number_at n 0 bytes) ≡ take n bytes
front_bytes n bytes e h = rw take-append-drop at (fields_back (drop n bytes) (replicate n byte_bits) (take n bytes) (bytes_fit n bytes e h))

-- a word's bytes, as many as there are
pub word_small : (bytes : List ℕ) → all_bytes bytes ≡ true → number_at word_bytes 0 bytes < word_values
unfolding number_of all_bytes
word_small [] e = omega arith
word_small (a ∷ []) e = omega (arith, ltb-true a byte_values (all_cons _ a [] e).0)
word_small (a ∷ b ∷ bytes) e =
    let t = all_cons _ a (b ∷ bytes) e in omega (arith, ltb-true a byte_values t.0, ltb-true b byte_values (all_cons _ b bytes t.1).0)
