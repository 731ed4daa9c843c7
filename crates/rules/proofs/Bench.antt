-- The bench table holds, by computing; and so does each of its rows.
use Prim.Native.Nat.{ℕ, suc}
use mathlib.Core.Path.{◌≡◌, refl, ap, ◌∙◌}
use mathlib.Core.Logic.{⊎_elim}
use mathlib.Core.Bool.{Bool, true, false}
use mathlib.Core.List.Memᴰ
use mathlib.Core.List.{List, [], ◌∷◌, ◌++◌, Memᴰ}
use native.Mathlib.Omega.{arith}
use Rattle.rules.specs.Choice.{pick}
use Rattle.rules.specs.Messages.Parameters.{setting, cut}
use Rattle.rules.specs.Bench.{Case, holds, failures}
use Rattle.rules.specs.Bench.Rows.{starred, warned}
use Rattle.rules.specs.Whole.{whole}

pub bench : failures 0 starred ≡ []
unfolding whole
bench = refl

pub warnings : failures 0 warned ≡ []
unfolding whole
warnings = refl

-- the worked example beside `cut`
cut_example : cut setting 0 (0x04 ∷ 0x02 ∷ 0x01 ∷ 0x05 ∷ 0x02 ∷ 0x00 ∷ []) ≡ (0x04 ∷ 0x02 ∷ 0x01 ∷ []) ∷ (0x05 ∷ 0x02 ∷ 0x00 ∷ []) ∷ []
unfolding whole
cut_example = refl

-- a table without failures begins with a row that holds, and goes on without failures
first_holds : (t : Bool) (n : ℕ) (ns : List ℕ) → pick t [] (n ∷ []) ++ ns ≡ [] → (t ≡ true) × (ns ≡ [])
unfolding pick
first_holds true n ns e = (refl, e)
first_holds false n ns e = let no : ◌≡◌ {A = ℕ} 0 1 = cc in absurd (omega arith)

each_holds : {r : Case} {rs : List Case} (n : ℕ) → Memᴰ r rs → failures n rs ≡ [] → holds r ≡ true
unfolding failures
each_holds n (Memᴰ.head {x = x} {xs = xs} q) e = ap holds q ∙ (first_holds (holds x) n (failures (suc n) xs) e).0
each_holds n (Memᴰ.tail {x = x} {xs = xs} m) e = each_holds (suc n) m (first_holds (holds x) n (failures (suc n) xs) e).1

pub row_holds : {r : Case} → Memᴰ r (starred ++ warned) → holds r ≡ true
row_holds m = ⊎_elim (λ x. each_holds 0 x bench) (λ x. each_holds 0 x warnings) (Memᴰ.append_cases starred m)
