-- The forms of a settings record, by the byte that a record begins with.
use Rattle.std.specs.Prelude.{ℕ, Option, Some, None, false, ◌≡◌}
use Rattle.rules.specs.Settings.{form1, form2, is_form}
use Rattle.settings.specs.declared.forms.Form.{Form}
use Rattle.settings.specs.declared.forms.Form.TheVariants.{One, Two}

abbrev pub code_of : Form → ℕ
code_of One = form1
code_of Two = form2

-- the form that a byte says, or that it says none
abbrev pub IsFormOf : ℕ → Option Form → Type 0
IsFormOf code (Some form) = code ≡ code_of form
IsFormOf code None = is_form code ≡ false
