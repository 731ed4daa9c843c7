-- A walk of pairs: what a turn and the end of each loop leave.
use mathlib.Core.Path.{◌≡◌, refl, sym, ap, ◌∙◌}
use Prim.Native.Nat.{ℕ, ◌+◌, ◌%◌, ◌<◌}
use mathlib.Core.Bool.{Bool, ◌&&◌}
use mathlib.Core.List.{List, [], ◌∷◌, ◌++◌}
use native.Mathlib.Omega.{arith}
use native.Mathlib.Numerals.{add-one}
use lib.Dec.{leb, eqb}
use lib.ListN.{length, set, length-append}
use Rattle.rules.specs.Messages.Layout.{byte_at}
use Rattle.rules.specs.Settings.{is_listed, sound_pairs, with_pairs}

-- Taking a pair into the table, by a walk that takes a pair of the list at a time.
pub table_turn : (pair rest table : List ℕ) {all : List ℕ} → all ≡ pair ++ rest → length pair ≡ 2 →
    with_pairs rest (set table (byte_at pair 0) (byte_at pair 1)) ≡ with_pairs all table
unfolding with_pairs
table_turn [] rest table e h = absurd (omega arith)
table_turn (a ∷ []) rest table e h = absurd (omega arith)
table_turn (a ∷ b ∷ []) rest table e h = sym (ap (λ l. with_pairs l table) e)
table_turn (a ∷ b ∷ c ∷ pair) rest table e h = absurd (omega arith)

-- fewer than two bytes are left
pub short_table : (s table : List ℕ) → length s < 2 → table ≡ with_pairs s table
unfolding with_pairs
short_table [] table h = refl
short_table (a ∷ []) table h = refl
short_table (a ∷ b ∷ s) table h = absurd (omega arith)

-- Judging a pair: a turn's test, and what is left to judge.
pub pairs_turn : (pair rest : List ℕ) (least : ℕ) {all : List ℕ} {listed test : Bool} → all ≡ pair ++ rest → length pair ≡ 2 →
    listed ≡ is_listed (byte_at pair 1) → leb least (byte_at pair 0) && listed ≡ test →
    sound_pairs least all ≡ test && sound_pairs (byte_at pair 0 + 1) rest
unfolding sound_pairs
pairs_turn [] rest least e h l t = absurd (omega arith)
pairs_turn (a ∷ []) rest least e h l t = absurd (omega arith)
pairs_turn (a ∷ b ∷ []) rest least e h l t =
    let both : leb least a && is_listed b ≡ _ = ap (λ x. leb least a && x) (sym l) ∙ t in
    ap (sound_pairs least) e ∙ (λ k. both k && sound_pairs (sym (add-one a) k) rest)
pairs_turn (a ∷ b ∷ c ∷ pair) rest least e h l t = absurd (omega arith)

-- as even as what is left
pub whole_pair : (pair rest : List ℕ) {all : List ℕ} → all ≡ pair ++ rest → length pair ≡ 2 → length rest % 2 ≡ length all % 2
whole_pair pair rest e h =
    let sum = ap length e ∙ length-append pair rest in
    omega arith

-- fewer than two bytes are left, none if there was an even number of them
pub short_pairs : (all s : List ℕ) (least : ℕ) → length s < 2 → length s % 2 ≡ length all % 2 → eqb (length all % 2) 0 ≡ sound_pairs least s
unfolding sound_pairs
short_pairs all [] least h e = ap (λ n. eqb n 0) (sym e)
short_pairs all (a ∷ []) least h e = ap (λ n. eqb n 0) (sym e)
short_pairs all (a ∷ b ∷ s) least h e = absurd (omega arith)
