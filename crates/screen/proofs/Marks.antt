-- Marks and spaces: what they do to the column, and how many of them stand behind a text's first characters.
use mathlib.Core.Path.{◌≡◌, refl, sym, ap, ◌∙◌}
use Prim.Native.Nat.{ℕ, zero, suc, ◌+◌, ◌-◌, ◌^◌, min, ◌≤◌, ◌<◌}
use native.Mathlib.Numerals.{add-one}
use native.Mathlib.Omega.{arith}
use mathlib.Core.Bool.{true, false}
use mathlib.Core.List.{List, [], ◌∷◌, ◌++◌, map}
use lib.Dec.{eqb, eqb-suc-zero}
use lib.ListN.{length, get_or, take, drop, replicate}
use lib.ListN.{length-append, length-take, length-drop, take-append-drop, drop_of_length-le}
use lib.Seq.{take-take}
use Rattle.std.proofs.lemmas.List.{drop_min}
use borrow.Author.Tests.{leb-true}
use Rattle.rules.specs.Choice.{pick, all_are, any_is}
use Rattle.rules.specs.Numbers.{top_column}
use Rattle.rules.specs.Screen.{HT, SP, is_mark, to_tab, column_after, column_after_all, echo, echo_all, marks_behind}
use Rattle.rules.proofs.Choice.{pick_true, pick-false, pick_case, within-true, both, or_none, all_cons}
use Rattle.rules.proofs.Bounds.Screen.{echo_all-length}
use Rattle.screen.specs.Marks.{capped, is_tab, first_worked_out}
use Rattle.screen.proofs.Cases.{column_mark}
use Rattle.screen.proofs.Echoes.{column_after_all_append, echo_all_append, echo_all_more}

-- An echo is marks and spaces.
low_mark : (b : ℕ) → 32 ≤ b → b ≤ 126 → is_mark b ≡ true
unfolding is_mark
low_mark b p q = rw (within-true 32 126 b p q)

spaces_marks : (k : ℕ) → all_are is_mark (replicate k SP) ≡ true
unfolding all_are
spaces_marks zero = refl
spaces_marks (suc k) = both (low_mark SP (omega arith) (omega arith)) (spaces_marks k)

caret_marks : (b : ℕ) → 32 ≤ b → b ≤ 126 → all_are is_mark (0x5E ∷ b ∷ []) ≡ true
unfolding all_are
caret_marks b p q = both (low_mark 0x5E (omega arith) (omega arith)) (both (low_mark b p q) refl)

echo_marks : (column n : ℕ) → all_are is_mark (echo column n) ≡ true
unfolding echo all_are
echo_marks column n =
    pick_case P _ (λ m. both m refl) λ _.
    pick_case P _ (λ _. spaces_marks (to_tab column)) λ _.
    pick_case P _ (λ k. let low = leb-true n 31 k in caret_marks (n + 64) (omega arith) (omega arith)) λ _.
    pick_case P _ (λ _. caret_marks 0x3F (omega arith) (omega arith)) λ _. refl
  where
    P : List ℕ → Type 0
    P bs = all_are is_mark bs ≡ true

marks_column : (b : ℕ) (bs : List ℕ) (column : ℕ) → all_are is_mark (b ∷ bs) ≡ true →
    column_after_all column (b ∷ bs) ≡ min top_column (column + length (b ∷ bs))
unfolding column_after_all
marks_column b [] column m = column_mark column b (all_cons is_mark b [] m).0
marks_column b (d ∷ bs) column m =
    let h = all_cons is_mark b (d ∷ bs) m in
    let first = column_mark column b h.0 in
    let rest = marks_column d bs (column_after column b) h.1 in
    omega arith

-- so the column behind an echo goes by its length
marks_after : (column : ℕ) (bs : List ℕ) → all_are is_mark bs ≡ true →
    column_after_all column bs ≡ pick (eqb (length bs) 0) column (min top_column (column + length bs))
unfolding column_after_all
marks_after column [] m = sym (pick_true column (min top_column (column + 0)) refl)
marks_after column (b ∷ bs) m =
    let most = min top_column (column + length (b ∷ bs)) in
    marks_column b bs column m ∙ sym (pick-false column most (eqb-suc-zero (length bs)))

echo_column : (column n width : ℕ) → width ≡ length (echo column n) →
    column_after_all column (echo column n) ≡ pick (eqb width 0) column (min top_column (column + width))
echo_column column n width e = rw e (marks_after column (echo column n) (echo_marks column n))

-- the column behind a text
abbrev pub reached : ℕ → List ℕ → ℕ
reached column ns = column_after_all column (echo_all column ns)

-- the marks of a text are those of its first characters and those behind them
marks_split : (kept column : ℕ) (ns : List ℕ) →
    length (echo_all column ns) ≡ length (echo_all column (take kept ns)) + marks_behind kept column ns
unfolding marks_behind
marks_split kept column ns =
    ap (λ l. length (echo_all column l)) (sym (take-append-drop kept ns))
    ∙ ap length (echo_all_append (take kept ns) (drop kept ns) column)
    ∙ length-append (echo_all column (take kept ns)) (echo_all (reached column (take kept ns)) (drop kept ns))

-- none stands behind the first characters of a text that has no more
pub marks_none : (kept column : ℕ) (text : List ℕ) (i : ℕ) → i ≤ kept → marks_behind kept column (take i text) ≡ 0
unfolding marks_behind echo_all
marks_none kept column text i h =
    let short : length (take i text) ≤ kept = omega (arith, length-take i text) in
    rw (drop_of_length-le (take i text) short)

-- A turn of the count, over one more character: the column behind it, and the marks where it is not kept and where it is.
module _ (column : ℕ) (text : List ℕ) (i : ℕ) (inside : i < length text) where
  abbrev here : ℕ
  here = reached column (take i text)

  abbrev next : ℕ
  next = get_or text i 0

  module _ {now more : ℕ} (n : now ≡ here) (w : more ≡ length (echo now next)) where
    pub column_turn : {after : ℕ} → after ≡ pick (eqb more 0) now (min top_column (now + more)) →
        after ≡ reached column (take (i + 1) text)
    column_turn e =
        e
        ∙ sym (echo_column now next more w)
        ∙ ap (λ c. column_after_all c (echo c next)) n
        ∙ sym (ap (column_after_all column) (echo_all_more column text i inside)
        ∙ column_after_all_append (echo_all column (take i text)) (echo here next) column)

    pub marks_turn : (kept : ℕ) {marks after : ℕ} → kept ≤ i → marks ≡ capped (marks_behind kept column (take i text)) →
        after ≡ capped (marks + more) → after ≡ capped (marks_behind kept column (take (i + 1) text))
    marks_turn kept k m e =
        let before = marks_split kept column (take i text) in
        let behind = marks_split kept column (take (i + 1) text) in
        let front = take-take kept (i + 1) text (omega arith) ∙ sym (take-take kept i text k) in
        let fronts = ap (λ l. length (echo_all column l)) front in
        let whole = ap length (echo_all_more column text i inside) in
        let parts = length-append (echo_all column (take i text)) (echo here next) in
        let width = w ∙ ap (λ c. length (echo c next)) n in
        omega arith

pub kept_turn : (kept column : ℕ) (text : List ℕ) (i : ℕ) {marks after : ℕ} → i < kept →
    marks ≡ capped (marks_behind kept column (take i text)) → after ≡ marks →
    after ≡ capped (marks_behind kept column (take (i + 1) text))
kept_turn kept column text i k m e =
    let before = marks_none kept column text i (omega arith) in
    let still = marks_none kept column text (i + 1) (omega arith) in
    omega arith

-- so kept characters alone leave no mark
pub kept_turns : (kept column : ℕ) (text : List ℕ) (i : ℕ) → i ≤ kept → 0 ≡ capped (marks_behind kept column (take i text))
kept_turns kept column text zero k = let none = marks_none kept column text 0 k in omega arith
kept_turns kept column text (suc i) k =
    kept_turn kept column text i k (kept_turns kept column text i (omega arith)) refl
    ∙ ap (λ n. capped (marks_behind kept column (take n text))) (add-one i)

-- Only a tab's echo depends on its column: a text without one echoes the same at any column.
echo_anywhere : (c d n : ℕ) → is_tab n ≡ false → echo c n ≡ echo d n
unfolding echo is_tab
echo_anywhere c d n e = ap (pick (is_mark n) (n ∷ [])) (pick-false _ _ e ∙ sym (pick-false _ _ e))

echo_all_anywhere : (ns : List ℕ) → any_is is_tab ns ≡ false → (c d : ℕ) → echo_all c ns ≡ echo_all d ns
unfolding echo_all any_is
echo_all_anywhere [] none c d = refl
echo_all_anywhere (n ∷ ns) none c d =
    let h = or_none (is_tab n) (any_is is_tab ns) none in
    ap (λ l. l ++ echo_all (column_after_all c (echo c n)) ns) (echo_anywhere c d n h.0)
    ∙ ap (λ l. echo d n ++ l) (echo_all_anywhere ns h.1 (column_after_all c (echo c n)) (column_after_all d (echo d n)))

-- so the marks from the first character on whose column is worked out are all the marks
pub found_behind : (kept column : ℕ) (ns : List ℕ) →
    marks_behind (kept - first_worked_out kept ns) column (drop (first_worked_out kept ns) ns) ≡ marks_behind kept column ns
unfolding first_worked_out marks_behind
found_behind kept column ns =
    let zero_left : kept - 0 ≡ kept = omega arith in
    let none_left : kept - kept ≡ 0 = omega arith in
    pick_case (λ first. marks_behind (kept - first) column (drop first ns) ≡ marks_behind kept column ns) _ {a = 0} {b = kept}
    (λ _. ap (λ k. marks_behind k column ns) zero_left)
    (λ none.
    ap (λ k. marks_behind k column (drop kept ns)) none_left
    ∙ ap length (echo_all_anywhere (drop kept ns) none (reached column []) (reached column (take kept ns))))

pub first_within : (kept : ℕ) (ns : List ℕ) → first_worked_out kept ns ≤ kept
unfolding first_worked_out
first_within kept ns = pick_case (λ first. first ≤ kept) _ (λ _. omega arith) (λ _. omega arith)

pub first_kept : (kept : ℕ) (ns : List ℕ) → any_is is_tab (drop kept ns) ≡ false → first_worked_out kept ns ≡ kept
unfolding first_worked_out
first_kept kept ns none = pick-false 0 kept none

-- The text behind the skipped characters: first what is replayed, all of it kept, and then what is deleted.
pub record Walks (kept : ℕ) (ns replayed deleted : List ℕ) : Type 0 where
  pub parts : drop (first_worked_out kept ns) ns ≡ replayed ++ deleted
  pub replays : length replayed ≡ min kept (length ns) - first_worked_out kept ns

module _ (kept : ℕ) (ns : List ℕ) {at : ℕ} {deleted : List ℕ} (a : at ≡ min kept (length ns)) (d : deleted ≡ drop at ns) where
  behind : deleted ≡ drop kept ns
  behind = d ∙ ap (λ k. drop k ns) a ∙ drop_min kept ns

  -- all that is kept is replayed where a tab is deleted, and else none
  pub walks_replayed : {replayed : List ℕ} → any_is is_tab deleted ≡ true → replayed ≡ take at ns → Walks kept ns replayed deleted
  unfolding first_worked_out
  walks_replayed tab front =
      let first = pick_true 0 kept (sym (ap (any_is is_tab) behind) ∙ tab) in
      record { parts = cc (take-append-drop at ns); replays = omega (arith, ap length front, length-take at ns) }

  pub walks_skipped : {replayed : List ℕ} → any_is is_tab deleted ≡ false → replayed ≡ [] → Walks kept ns replayed deleted
  walks_skipped none empty =
      let first = first_kept kept ns (sym (ap (any_is is_tab) behind) ∙ none) in
      record { parts = cc behind; replays = omega (arith, ap length empty) }

-- computed, because with every character called a tab all other laws would hold: a tab between two characters, 0 to 4 of them kept
first_by_tab : map (λ kept. first_worked_out kept (0x61 ∷ HT ∷ 0x62 ∷ [])) (0 ∷ 1 ∷ 2 ∷ 3 ∷ 4 ∷ []) ≡ 0 ∷ 0 ∷ 2 ∷ 3 ∷ 4 ∷ []
unfolding first_worked_out any_is is_tab pick
first_by_tab = refl

-- a text that memory holds easily is counted to its end
pub capped_whole : (kept column : ℕ) (ns : List ℕ) → length ns < 2 ^ 60 →
    capped (marks_behind kept column ns) ≡ marks_behind kept column ns
unfolding marks_behind
capped_whole kept column ns h =
    let most = echo_all-length (column_after_all column (echo_all column (take kept ns))) (drop kept ns) in
    let fewer = length-drop kept ns in
    omega arith
