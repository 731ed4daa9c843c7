-- What a decoded message means: its fields, read off the slice that it was found in, and where its spans lie there; a number for
-- each refusal.
use Rattle.std.specs.Prelude.{ℕ, ◌+◌, ◌-◌, ◌≤◌, ◌≡◌, Bool, true, false, not, List, [], ◌∷◌, ◌++◌, map, leb, length, drop, Result, Ok, Err}
use Rattle.rules.specs.Choice.{pick, all_are}
use Rattle.rules.specs.Numbers.{message_size, accepted, unsound}
use Rattle.rules.specs.Messages.Layout.{fields_in, number_at}
use Rattle.rules.specs.Messages.Parameters.{Shape, initiation, question, setting, cleaned, cut}
use Rattle.rules.specs.Messages.Forms as forms
use Rattle.rules.specs.Messages.Forms.{form_of, plain}
use Rattle.rules.specs.Messages.Codec as codec
use Rattle.rules.specs.Messages.Codec.{Outcome, Held, sound_as, fields_as}
use Rattle.fields.specs.declared.Span.{Span}
use Rattle.fields.specs.Spans.{span_of}
use Rattle.message.specs.declared.StartReadFields.{StartReadFields}
use Rattle.message.specs.declared.WriteFields.{WriteFields}
use Rattle.message.specs.declared.Message.{Message}
use Rattle.message.specs.declared.Message.TheVariants.{Initiate, StartRead, ReadData, OutOfBand, Unread, ClearInput, Write}
use Rattle.message.specs.declared.Message.TheVariants.{WriteCompletion, DiscardState, ReadCharacteristics, Characteristics}
use Rattle.message.specs.declared.Message.TheVariants.{CheckInput, InputCount, InputState, Other}
use Rattle.rules.specs.declared.refusals.Refusal.{Refusal}
use Rattle.rules.specs.declared.refusals.Refusal.TheVariants.{Unsound}
use Rattle.rules.specs.Refusals.{number_of}
use Rattle.parameters.specs.Lists.{sound_from}

-- the parameters in a span
unfoldable pub parameters_of : Shape → List ℕ → Span → List (List ℕ)
parameters_of shape s p = map (cleaned shape) (cut shape 0 (span_of s p))

abbrev pub plain_message : ℕ → List ℕ → Held
plain_message kind numbers = codec.message (plain kind numbers)

abbrev pub text_message : ℕ → List ℕ → List ℕ → List ℕ → Held
text_message kind numbers set text =
    codec.message (record { kind = kind; numbers = numbers; set = set; parameters = []; text = text })

abbrev pub list_message : ℕ → List ℕ → List (List ℕ) → Held
list_message kind numbers parameters =
    codec.message (record { kind = kind; numbers = numbers; set = []; parameters = parameters; text = [] })

-- Start Read: its flags, and all of it
abbrev pub flags_of : StartReadFields → List ℕ
flags_of f =
    f.underflow ∷ f.clears_type_ahead ∷ f.formats ∷ f.vertical ∷ f.continues ∷ f.raises ∷ f.disables ∷ f.silent ∷
    f.terminator_echo ∷ f.timed ∷ f.set_choice ∷ f.escapes ∷ []

unfoldable pub start_read_in : List ℕ → StartReadFields → forms.Message ℕ
start_read_in s f =
    record {
      kind = forms.start_read;
      numbers =
          flags_of f ++
          (f.max_length ∷ f.end_of_data ∷ f.timeout ∷ f.end_of_prompt ∷ f.start_of_display ∷ f.low_water ∷ []);
      set = span_of s f.set;
      parameters = [];
      text = span_of s f.text;
    }

-- a Write, by its fields
abbrev pub write_in : List ℕ → WriteFields → forms.Message ℕ
write_in s f =
    record {
      kind = forms.write;
      numbers =
          f.lock ∷ f.newline ∷ f.keeps_output ∷ f.first ∷ f.last ∷ f.prefix ∷ f.postfix ∷ f.wants_completion ∷
          f.transparent ∷ f.prefix_value ∷ f.postfix_value ∷ [];
      set = [];
      parameters = [];
      text = span_of s f.text;
    }

-- the fields of each case
unfoldable pub held_in : List ℕ → Message → Held
held_in s (Initiate f) =
    list_message forms.initiate (f.version ∷ f.eco ∷ f.modification ∷ span_of s f.revision) (parameters_of initiation s f.parameters)
held_in s (StartRead f) = codec.message (start_read_in s f)
held_in s (ReadData f) =
    text_message forms.read_data
    (f.code ∷ f.more ∷ f.low_water ∷ f.vertical ∷ f.horizontal ∷ f.terminator ∷ []) [] (span_of s f.text)
held_in s (OutOfBand discard character) = plain_message forms.out_of_band (discard ∷ character ∷ [])
held_in s (Unread condition) = plain_message forms.unread (condition ∷ [])
held_in s ClearInput = plain_message forms.clear_input []
held_in s (Write f) = codec.message (write_in s f)
held_in s (WriteCompletion lost horizontal vertical) = plain_message forms.write_completion (lost ∷ horizontal ∷ vertical ∷ [])
held_in s (DiscardState kept) = plain_message forms.discard_state (kept ∷ [])
held_in s (ReadCharacteristics p) = list_message forms.read_characteristics [] (parameters_of question s p)
held_in s (Characteristics p) = list_message forms.characteristics [] (parameters_of setting s p)
held_in s CheckInput = plain_message forms.check_input []
held_in s (InputCount count) = plain_message forms.input_count (count ∷ [])
held_in s (InputState nonzero) = plain_message forms.input_state (nonzero ∷ [])
held_in s (Other kind body) = codec.other kind (span_of s body)

-- the spans of each case
unfoldable pub span_list_of : Message → List Span
span_list_of (Initiate f) = f.revision ∷ f.parameters ∷ []
span_list_of (StartRead f) = f.set ∷ f.text ∷ []
span_list_of (ReadData f) = f.text ∷ []
span_list_of (OutOfBand discard character) = []
span_list_of (Unread condition) = []
span_list_of ClearInput = []
span_list_of (Write f) = f.text ∷ []
span_list_of (WriteCompletion lost horizontal vertical) = []
span_list_of (DiscardState kept) = []
span_list_of (ReadCharacteristics p) = p ∷ []
span_list_of (Characteristics p) = p ∷ []
span_list_of CheckInput = []
span_list_of (InputCount count) = []
span_list_of (InputState nonzero) = []
span_list_of (Other kind body) = body ∷ []

-- a span, and every span of a message, lies in a slice of this length
abbrev pub lies : ℕ → Span → Bool
lies size p = leb (p.start + p.len) size

abbrev pub all_lie : ℕ → Message → Bool
all_lie size m = all_are (lies size) (span_list_of m)

-- what reading gives, as what can be held
unfoldable pub as_held : Outcome (forms.Message ℕ) → Outcome Held
as_held (codec.refused n) = codec.refused n
as_held (codec.sound m) = codec.sound (codec.message m)

-- what was found, or its number
unfoldable pub found_in : List ℕ → Result Message Refusal → Outcome Held
found_in s (Ok m) = codec.sound (held_in s m)
found_in s (Err e) = codec.refused (number_of e)

-- every span of what was found lies in the slice
unfoldable pub found_inside : ℕ → Result Message Refusal → Bool
found_inside size (Ok m) = all_lie size m
found_inside size (Err e) = true

-- what reading promises: this outcome, and where the spans of a message lie
pub record Finds (s : List ℕ) (o : Outcome Held) (f : Result Message Refusal) : Type 0 where
  pub fields : found_in s f ≡ o
  pub inside : found_inside (length s) f ≡ true

-- the number of what was found
abbrev pub found_number : Result Message Refusal → ℕ
found_number (Ok m) = accepted
found_number (Err e) = number_of e

-- reading as one type
unfoldable pub decoded_as : ℕ → List ℕ → Outcome Held
decoded_as kind s =
    as_held (pick (not (sound_as (form_of kind) s)) (codec.refused unsound) (codec.sound (fields_as (form_of kind) s)))

-- what a reader of one type is handed: a message of that type that is not too long
pub record IsType (kind : ℕ) (s : List ℕ) : Type 0 where
  pub typed : forms.type_in s ≡ kind
  pub short : length s ≤ message_size

-- what stands from a place on
pub record RestFrom (at : ℕ) (s : List ℕ) (p : Span) : Type 0 where
  pub same : span_of s p ≡ drop at s
  pub long : p.len ≡ length s - at
  pub inside : at ≤ length s → p.start + p.len ≤ length s

-- a message of a fixed length: this one where there are so many bytes, and refused where there are not
pub record IsFixed (size : ℕ) (s : List ℕ) (m : Message) : Type 0 where
  pub is : length s ≡ size → Finds s (decoded_as (forms.type_in s) s) (Ok m)
  pub other : (length s ≡ size → ⊥) → Finds s (decoded_as (forms.type_in s) s) (Err Unsound)

-- the list of a message of this type, which stands behind so many bytes, or that it is cut short or unsound
abbrev pub ListIn : ℕ → ℕ → List ℕ → Result Span Refusal → Type 0
ListIn kind header s (Ok p) = (header ≤ length s) × (sound_from kind header s ≡ true) × RestFrom header s p
ListIn kind header s (Err e) = (e ≡ Unsound) × (header ≤ length s → sound_from kind header s ≡ false)

-- the fields as one type, whatever they hold; the spans of a message that is not refused lie in the slice
pub record FieldsIn (kind : ℕ) (s : List ℕ) (m : Message) : Type 0 where
  pub fields : held_in s m ≡ codec.message (fields_as (form_of kind) s)
  pub inside : sound_as (form_of kind) s ≡ true → all_lie (length s) m ≡ true

-- the flags of a Start Read, with spans that are given
pub record FlagsAre (s : List ℕ) (set text : Span) (f : StartReadFields) : Type 0 where
  pub flags : flags_of f ≡ fields_in forms.start_read_widths (number_at forms.start_read_flag_bytes forms.head_at s)
  pub set_kept : f.set ≡ set
  pub text_kept : f.text ≡ text

-- the fields of a Start Read
pub record StartReadIs (s : List ℕ) (f : StartReadFields) : Type 0 where
  pub found : FieldsIn forms.start_read s (StartRead f)
  pub long : length (span_of s f.text) ≡ f.text.len
