-- The screen of the rules that a struct stands for, what an echo is in bytes, and what a method that writes to the terminal promises.
use Rattle.std.specs.Prelude.{ℕ, ◌≡◌, List, [], ◌∷◌, replicate}
use Rattle.rules.specs.Screen as rules
use Rattle.rules.specs.Screen.{SP, CARET, shown_all}
use Rattle.areas.specs.Writes.{Writes}
use Rattle.areas.specs.declared.Writer.{Writer}
use Rattle.screen.specs.declared.Screen.{Screen}
use Rattle.screen.specs.declared.echo.Echo.{Echo}
use Rattle.screen.specs.declared.echo.Echo.TheVariants.{Mark, Spaces, Control, Nothing}

abbrev pub screen_view : Screen → rules.Screen
screen_view s = record { column = s.column; line = s.line; after_cr = s.after_cr }

abbrev pub echoed : Echo → List ℕ
echoed (Mark b) = b ∷ []
echoed (Spaces count) = replicate count SP
echoed (Control b) = CARET ∷ b ∷ []
echoed Nothing = []

-- these bytes were put by a writer, and the screen shows them
pub record Shows (bytes : List ℕ) (old new : Screen) (before after : Writer) : Type 0 where
  pub writes : Writes bytes before after
  pub screen : screen_view new ≡ shown_all (screen_view old) bytes
