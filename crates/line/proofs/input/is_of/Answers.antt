use mathlib.Core.Bool.{Bool, true, false, beq}
use mathlib.Core.Path.{◌≡◌, refl, ap, ◌∙◌}
use Rattle.rules.specs.Choice.{pick, within}
use Rattle.rules.specs.Editing.{is_word}
use Rattle.line.specs.ReadChanges.{of_class}
use Rattle.line.proofs.input.is_of.Goals as goal

pub returns : goal.returns
unfolding of_class is_word within pick
returns c = ap (λ b. beq b c.args.word) c.is_ascii_alphanumeric.ensures.value ∙ by_class c.args.word (is_word c.args.n)
  where
    by_class : (word test : Bool) → beq test word ≡ pick word test (mathlib.Core.Bool.not test)
    by_class true true = refl
    by_class true false = refl
    by_class false true = refl
    by_class false false = refl
