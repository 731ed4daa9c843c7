-- The unused bits of a message: those above the fields of a group, and above the used values of a parameter's byte.
use Rattle.std.specs.Prelude.{ℕ, zero, ◌+◌, ◌^◌, Bool, true, ◌&&◌, List, [], ◌∷◌, ltb}
use Rattle.rules.specs.Choice.{all_are}
use Rattle.rules.specs.Messages.Layout.{Group, number_at}
use Rattle.rules.specs.Messages.Parameters.{fits_parameter, cut}
use Rattle.rules.specs.Messages.Forms.{type_in, head_at, Tail, nothing, text, set_and_text, list, Form, form_of}
use Rattle.rules.specs.Messages.Codec.{behind_head}

-- how many bits fields of these widths take
unfoldable pub bits_of : List ℕ → ℕ
bits_of [] = 0
bits_of (w ∷ ws) = w + bits_of ws

-- in each of the groups that begin at a place, nothing stands above the fields
unfoldable pub zero_groups : List Group → ℕ → List ℕ → Bool
zero_groups [] at bytes = true
zero_groups (g ∷ gs) at bytes = ltb (number_at g.bytes at bytes) (2 ^ bits_of g.widths) && zero_groups gs (at + g.bytes) bytes

unfoldable pub zero_tail : Tail → List ℕ → Bool
zero_tail nothing rest = true
zero_tail text rest = true
zero_tail set_and_text rest = true
zero_tail (list shape) rest = all_are (fits_parameter shape) (cut shape zero rest)

unfoldable pub zero_as : Form → List ℕ → Bool
zero_as f bytes = zero_groups f.head head_at bytes && zero_tail f.tail (behind_head f bytes)

-- the message in these bytes has its unused bits 0
unfoldable pub unused_zero : List ℕ → Bool
unused_zero bytes = zero_as (form_of (type_in bytes)) bytes
