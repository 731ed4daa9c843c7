-- What 23 leaves: the loop from the end.
use mathlib.Core.Path.{◌≡◌, sym, ap, ◌∙◌}
use Prim.Native.Nat.{ℕ, suc, ◌+◌, ◌-◌, ◌≤◌, ◌<◌}
use native.Mathlib.Omega.{arith}
use mathlib.Core.Bool.{Bool, true, false, not}
use mathlib.Core.List.{List, [], ◌∷◌, reverse, reverse-append, map-id}
use lib.ListN.{length, get_or, take, drop, take-append-drop, length-drop, length-reverse}
use lib.Seq.{take-suc, drop_at, length-take-le}
use Rattle.rules.specs.Choice.{pick}
use Rattle.rules.specs.Editing.{is_word, leading, left_by_delete_word}
use Rattle.rules.proofs.Choice.{pick_true, pick-false, pick_case}
use Rattle.line.specs.declared.Reading.{Reading}
use Rattle.line.specs.View.{input_of}
use Rattle.line.specs.Bounded.{CountedReading}
use Rattle.line.specs.ReadChanges.{of_class, LeftByDeleteWord}

-- where the characters that pass a test at the end begin
abbrev pub before : (ℕ → Bool) → ℕ → List ℕ → ℕ
before test at text = at - leading test (reverse (take at text))

-- from the end one character back
back : (text : List ℕ) (last : ℕ) → last < length text → reverse (take (suc last) text) ≡ get_or text last 0 ∷ reverse (take last text)
back text last h = ap reverse (take-suc text last 0 h) ∙ reverse-append (take last text) (get_or text last 0 ∷ [])

module _ (test : ℕ → Bool) (text : List ℕ) (at last : ℕ) (e : at ≡ suc last) (h : last < length text) where
  pub before_more : test (get_or text last 0) ≡ true → before test last text ≡ before test at text
  unfolding leading
  before_more t =
      let more : leading test (reverse (take at text)) ≡ 1 + leading test (reverse (take last text)) =
      ap (λ k. leading test (reverse (take k text))) e ∙ ap (leading test) (back text last h) ∙ pick_true _ _ t in
      omega arith

  pub before_stop : test (get_or text last 0) ≡ false → at ≡ before test at text
  unfolding leading
  before_stop t =
      let none : leading test (reverse (take at text)) ≡ 0 =
      ap (λ k. leading test (reverse (take k text))) e ∙ ap (leading test) (back text last h) ∙ pick-false _ _ t in
      omega arith

leading_most : (test : ℕ → Bool) (ns : List ℕ) → leading test ns ≤ length ns
unfolding leading
leading_most test [] = omega arith
leading_most test (n ∷ ns) =
    let most = leading_most test ns in
    pick_case (λ k. k ≤ length (n ∷ ns)) (test n) (λ y. omega arith) (λ y. omega arith)

drop-reverse : (ns : List ℕ) (k : ℕ) → k ≤ length ns → drop k (reverse ns) ≡ reverse (take (length ns - k) ns)
drop-reverse ns k h =
    let m = length ns - k in
    let long : length (reverse (drop m ns)) ≡ k = omega (arith, length-reverse (drop m ns), length-drop m ns) in
    ap (λ l. drop k (reverse l)) (sym (take-append-drop m ns))
    ∙ ap (drop k) (reverse-append (take m ns) (drop m ns))
    ∙ drop_at (reverse (drop m ns)) (reverse (take m ns)) k long

-- first back over what is of no word, then over a word
left_by : (ns : List ℕ) (spaces left : ℕ) → spaces ≡ length ns - leading (of_class false) (reverse ns) →
    left ≡ length (take spaces ns) - leading (of_class true) (reverse (take spaces ns)) → left ≡ left_by_delete_word ns
unfolding left_by_delete_word of_class pick
left_by ns spaces left e f =
    let k = leading (λ n. not (is_word n)) (reverse ns) in
    let most : k ≤ length ns = omega (arith, leading_most (λ n. not (is_word n)) (reverse ns), length-reverse ns) in
    let there : length ns - k ≡ spaces = sym e in
    let behind : drop k (reverse ns) ≡ reverse (take spaces ns) = drop-reverse ns k most ∙ ap (λ j. reverse (take j ns)) there in
    let word : leading is_word (drop k (reverse ns)) ≡ leading is_word (reverse (take spaces ns)) = ap (leading is_word) behind in
    let long = length-take-le spaces ns (omega arith) in
    omega arith

pub leaves_23 : (r : Reading) (text : List ℕ) (spaces left : ℕ) → CountedReading r text →
    spaces ≡ length (take r.input_len text) - leading (of_class false) (reverse (take r.input_len text)) →
    left ≡ length (take spaces (take r.input_len text)) - leading (of_class true) (reverse (take spaces (take r.input_len text))) →
    LeftByDeleteWord text r left
unfolding input_of
leaves_23 r text spaces left c e f =
    let long = length-take-le r.input_len text (omega arith) in
    let some = length-take-le spaces (take r.input_len text) (omega arith) in
    record {
      left_by = λ t l. left_by (take r.input_len text) spaces left e f ∙ ap left_by_delete_word (sym (map-id (take r.input_len text)));
      within = omega arith;
    }
