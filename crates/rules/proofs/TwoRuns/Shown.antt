-- Demand 3 says something, and needs each of its suppositions: by computing.
use Prim.Native.Nat.{ℕ}
use mathlib.Core.Path.{◌≡◌, refl, sym, ◌∙◌}
use mathlib.Core.Bool.{true, not, false≢true}
use mathlib.Core.List.{List, [], ◌∷◌, map, Memᴰ}
use borrow.Author.Tests.{eq-eqb, not-true}
use Rattle.rules.specs.Choice.{all_are, same}
use Rattle.rules.specs.State.{codes}
use Rattle.rules.specs.Calls.{Call, run}
use Rattle.rules.specs.TwoRuns.{Seen, seen, LooksTheSame}
use Rattle.rules.specs.TwoRuns.Examples.{same_seen, looks_same, Pair, meets, passcodes, is_hidden, broken, shows}
use Rattle.rules.specs.Whole.{whole}
use Rattle.rules.proofs.Choice.{both, halves, same_itself, all_member}

-- each passcode meets all suppositions, looks the same, and is read by the host
pub hidden : all_are is_hidden passcodes ≡ true
unfolding whole
hidden = refl

-- each pair breaks one supposition and looks different
pub needed : all_are shows broken ≡ true
unfolding whole
needed = refl

-- The test of looking the same passes where it is so.

same_seen_itself : (xs : List Seen) → same_seen xs xs ≡ true
unfolding same_seen
same_seen_itself [] = refl
same_seen_itself (x ∷ xs) =
    both
    (both
    (both
    (both
    (both
    (both (eq-eqb x.number _ refl) (same_itself x.terminal))
    (eq-eqb x.terminal_count _ refl))
    (same_itself x.messages))
    (eq-eqb x.message_count _ refl))
    (eq-eqb x.dropped_count _ refl))
    (same_seen_itself xs)

pub looks_tested : (cs ds : List (Call ℕ)) → LooksTheSame cs ds → looks_same cs ds ≡ true
unfolding looks_same
looks_tested cs ds e = rw e (same_seen_itself (map seen (run codes ds)))

-- so a pair that shows a difference does not look the same
pub shown_different : (p : Pair) → shows p ≡ true → LooksTheSame p.first p.second → ⊥
unfolding shows
shown_different p e same =
    let h = halves (meets p) (not (looks_same p.first p.second)) e in
    false≢true (sym (not-true _ h.1) ∙ looks_tested p.first p.second same)

pub broken_different : {p : Pair} → Memᴰ p broken → LooksTheSame p.first p.second → ⊥
broken_different {p} m = shown_different p (all_member shows m needed)
