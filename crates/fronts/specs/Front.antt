-- The bytes of a message before its parameter list.
use Rattle.std.specs.Prelude.{ℕ, ◌%◌, List, [], ◌∷◌, ◌++◌, length}
use Rattle.rules.specs.Messages.Layout.{byte_values, word_bytes, bytes_of, write_groups}
use Rattle.rules.specs.Messages.Forms.{Message, Tail, nothing, text, set_and_text, list, form_of}
use Rattle.rules.specs.Messages.Codec.{Held, message, other}
use Rattle.message.specs.declared.StartReadFields.{StartReadFields}
use Rattle.message.specs.declared.WriteFields.{WriteFields}

-- a set of more than 255 bytes, which is never written, has its count in one byte all the same
unfoldable pub front_tail : Tail → Message ℕ → List ℕ
front_tail nothing m = []
front_tail text m = m.text
front_tail set_and_text m = length m.set % byte_values ∷ (m.set ++ m.text)
front_tail (list shape) m = []

unfoldable pub front_bytes : Held → List ℕ
front_bytes (message m) = m.kind ∷ (write_groups (form_of m.kind).head m.numbers ++ front_tail (form_of m.kind).tail m)
front_bytes (other kind body) = []

-- the words of a Start Read
abbrev pub start_read_words : StartReadFields → List ℕ
start_read_words f =
    bytes_of word_bytes f.max_length ++ (bytes_of word_bytes f.end_of_data ++ (bytes_of word_bytes f.timeout ++
    (bytes_of word_bytes f.end_of_prompt ++ (bytes_of word_bytes f.start_of_display ++ bytes_of word_bytes f.low_water))))

-- the flags of a Write
abbrev pub write_flags : WriteFields → List ℕ
write_flags f =
    f.lock ∷ f.newline ∷ f.keeps_output ∷ f.first ∷ f.last ∷ f.prefix ∷ f.postfix ∷ f.wants_completion ∷
    f.transparent ∷ []
