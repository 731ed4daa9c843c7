-- Bytes under their limits, and fields in their widths: a width is a limit too.
use mathlib.Core.Path.{◌≡◌, refl, sym, ap, ◌∙◌}
use Prim.Native.Nat.{ℕ, zero, suc, ◌^◌, ◌<◌}
use native.Mathlib.Omega.{arith}
use mathlib.Core.Bool.{true, ◌&&◌, false≢true}
use mathlib.Core.List.{List, [], ◌∷◌, map}
use lib.Dec.{ltb}
use lib.ListN.{length}
use borrow.Author.Tests.{ltb-true, lt-ltb}
use Rattle.rules.specs.Messages.Layout.{byte_at, fits}
use Rattle.rules.specs.Messages.Parameters.{under}
use Rattle.rules.proofs.Choice.{both, halves}

-- as many as limits, each under its own: what `omega` proves of numbers that are written out
abbrev pub InLimits : List ℕ → List ℕ → Type 0
InLimits [] [] = Unit {0}
InLimits [] (b ∷ bs) = ⊥
InLimits (l ∷ ls) [] = ⊥
InLimits (l ∷ ls) (b ∷ bs) = (b < l) × InLimits ls bs

pub under-true : (ls bs : List ℕ) → InLimits ls bs → under ls bs ≡ true
unfolding under
under-true [] [] h = refl
under-true [] (b ∷ bs) h = absurd h
under-true (l ∷ ls) [] h = absurd h
under-true (l ∷ ls) (b ∷ bs) h = both (lt-ltb b l h.0) (under-true ls bs h.1)

pub under_at : (ls bs : List ℕ) (k : ℕ) → under ls bs ≡ true → k < length ls → byte_at bs k < byte_at ls k
unfolding under
under_at [] bs k e h = absurd (omega arith)
under_at (l ∷ ls) [] k e h = absurd (false≢true e)
under_at (l ∷ ls) (b ∷ bs) zero e h = ltb-true b l (halves (ltb b l) (under ls bs) e).0
under_at (l ∷ ls) (b ∷ bs) (suc k) e h = under_at ls bs k (halves (ltb b l) (under ls bs) e).1 (omega arith)

pub under-length : (ls bs : List ℕ) → under ls bs ≡ true → length bs ≡ length ls
unfolding under
under-length [] [] e = refl
under-length [] (b ∷ bs) e = absurd (false≢true e)
under-length (l ∷ ls) [] e = absurd (false≢true e)
under-length (l ∷ ls) (b ∷ bs) e = ap suc (under-length ls bs (halves (ltb b l) (under ls bs) e).1)

-- the limits of widths
abbrev pub width_limits : List ℕ → List ℕ
width_limits ws = map (λ w. 2 ^ w) ws

fits_under : (ws vs : List ℕ) → fits ws vs ≡ under (width_limits ws) vs
unfolding fits under
fits_under [] [] = refl
fits_under [] (v ∷ vs) = refl
fits_under (w ∷ ws) [] = refl
fits_under (w ∷ ws) (v ∷ vs) = ap (λ t. ltb v (2 ^ w) && t) (fits_under ws vs)

pub fits-true : (ws vs : List ℕ) → InLimits (width_limits ws) vs → fits ws vs ≡ true
fits-true ws vs h = fits_under ws vs ∙ under-true (width_limits ws) vs h

pub fits_at : (ws vs : List ℕ) (k : ℕ) → fits ws vs ≡ true → k < length (width_limits ws) → byte_at vs k < byte_at (width_limits ws) k
fits_at ws vs k e h = under_at (width_limits ws) vs k (sym (fits_under ws vs) ∙ e) h
