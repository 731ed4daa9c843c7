-- A form's byte is a form's.
use mathlib.Core.Path.{◌≡◌, refl}
use mathlib.Core.Bool.{true}
use Rattle.rules.specs.Settings.{is_form}
use Rattle.settings.specs.declared.forms.Form.{Form}
use Rattle.settings.specs.declared.forms.Form.TheVariants.{One, Two}
use Rattle.settings.specs.Forms.{code_of}

pub formed : (form : Form) → is_form (code_of form) ≡ true
unfolding is_form
formed One = refl
formed Two = refl
