-- Writing a message: its outcome.
use Rattle.std.specs.Prelude.{ℕ, Bool, List, length}
use Rattle.rules.specs.Choice.{first_row_answer}
use Rattle.rules.specs.Numbers.{accepted}
use Rattle.rules.specs.Messages.Forms as forms
use Rattle.rules.specs.Messages.Codec.{Outcome, refused, sound, message, read, write_refusals, written}
use Rattle.message.specs.declared.Message.{Message}
use Rattle.message.specs.Found.{held_in}
use Rattle.writing.specs.Spans.{spans_of, spanned_size, inside}

-- the number of the first refusal, or 0: by the area, the length, the type and one more test
unfoldable pub first_refusal : ℕ → ℕ → ℕ → Bool → ℕ
first_refusal area size kind passes = first_row_answer (λ n. n) accepted (write_refusals area size kind passes)

-- The refusals, by the spans' own lengths and by whether they lie in the slice; else as the definition has it.
unfoldable pub writing : ℕ → List ℕ → Message → Outcome (List ℕ)
writing area s m =
    first_row_answer refused (written area (held_in s m))
    (write_refusals area (spanned_size (spans_of m)) (spans_of m).kind (inside (length s) (spans_of m)))

-- what was read, written again
unfoldable pub again : ℕ → Outcome (forms.Message ℕ) → Outcome (List ℕ)
again area (refused n) = refused n
again area (sound x) = written area (message x)

unfoldable pub copied : ℕ → List ℕ → Outcome (List ℕ)
copied area s = again area (read s)
