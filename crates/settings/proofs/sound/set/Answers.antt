use mathlib.Core.Path.{◌≡◌, refl, ap, ◌∙◌}
use mathlib.Core.Bool.{not, ◌&&◌}
use mathlib.Core.List.{List, [], ◌∷◌}
use Prim.Native.Nat.{ℕ, ◌-◌}
use native.Mathlib.Omega.{arith}
use lib.Dec.{eqb, leb}
use lib.ListN.{length}
use Rattle.std.specs.Prelude.{Some}
use Rattle.std.specs.List.{slice_get}
use Rattle.std.specs.Option.{option_eq}
use Rattle.std.proofs.lemmas.Option.{slice_get-get_or}
use Rattle.rules.specs.Choice.{is_empty}
use Rattle.rules.specs.Settings.{sound_set}
use Rattle.settings.proofs.sound.set.Goals as goal

-- an empty section has no last byte
last_test : (s : List ℕ) → leb (length s) 32 && not (option_eq eqb (slice_get s (length s - 1)) (Some 0)) ≡ sound_set s
unfolding sound_set is_empty
last_test [] = refl
last_test (b ∷ bs) =
    let s = b ∷ bs in
    ap (λ last. leb (length s) 32 && not (option_eq eqb last (Some 0))) (slice_get-get_or s (length s - 1) 0 (omega arith))

pub returns : goal.returns
returns c =
    let s = c.args.section.now in
    ap (λ t. leb (length s) 32 && t) (c.ne.ensures ∙ ap (λ last. not (option_eq eqb last (Some 0))) (c.copied.ensures ∙ c.last.ensures.value)) ∙ last_test s
