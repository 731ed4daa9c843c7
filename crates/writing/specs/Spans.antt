-- The type and the spans of a message: how long it is by the lengths of its spans, and whether they lie in a slice.
use Rattle.std.specs.Prelude.{ℕ, ◌+◌, Bool, ◌&&◌, List, eqb}
use Rattle.rules.specs.Choice.{pick, joined}
use Rattle.rules.specs.Messages.Forms as forms
use Rattle.fields.specs.declared.Span.{Span}
use Rattle.message.specs.declared.Message.{Message}
use Rattle.message.specs.declared.Message.TheVariants.{Initiate, StartRead, ReadData, OutOfBand, Unread, ClearInput, Write}
use Rattle.message.specs.declared.Message.TheVariants.{WriteCompletion, DiscardState, ReadCharacteristics, Characteristics}
use Rattle.message.specs.declared.Message.TheVariants.{CheckInput, InputCount, InputState, Other}
use Rattle.message.specs.Found.{lies}
use Rattle.parameters.specs.Lists.{parameters_from}
use Rattle.writing.specs.declared.spans.Spans.{Spans}

abbrev pub none : Span
none = record { start = 0; len = 0 }

abbrev pub with_text : ℕ → ℕ → Span → Spans
with_text kind header text = record { kind = kind; header = header; list = none; set = none; text = text; revision = none }

abbrev pub bare : ℕ → ℕ → Spans
bare kind header = with_text kind header none

abbrev pub with_list : ℕ → ℕ → Span → Spans
with_list kind header list = record { kind = kind; header = header; list = list; set = none; text = none; revision = none }

abbrev pub initiate_spans : Span → Span → Spans
initiate_spans list revision = record { kind = forms.initiate; header = forms.initiate_header; list = list; set = none; text = none; revision = revision }

abbrev pub start_read_spans : Span → Span → Spans
start_read_spans set text = record { kind = forms.start_read; header = forms.start_read_header; list = none; set = set; text = text; revision = none }

unfoldable pub spans_of : Message → Spans
spans_of (Initiate f) = initiate_spans f.parameters f.revision
spans_of (StartRead f) = start_read_spans f.set f.text
spans_of (ReadData f) = with_text forms.read_data forms.read_data_header f.text
spans_of (OutOfBand discard character) = bare forms.out_of_band forms.out_of_band_header
spans_of (Unread condition) = bare forms.unread forms.bare_header
spans_of ClearInput = bare forms.clear_input forms.bare_header
spans_of (Write f) = with_text forms.write forms.write_header f.text
spans_of (WriteCompletion lost horizontal vertical) = bare forms.write_completion forms.write_completion_header
spans_of (DiscardState kept) = bare forms.discard_state forms.bare_header
spans_of (ReadCharacteristics p) = with_list forms.read_characteristics forms.bare_header p
spans_of (Characteristics p) = with_list forms.characteristics forms.bare_header p
spans_of CheckInput = bare forms.check_input forms.bare_header
spans_of (InputCount count) = bare forms.input_count forms.input_count_header
spans_of (InputState nonzero) = bare forms.input_state forms.bare_header
spans_of (Other kind body) = with_text kind forms.type_header body

-- how long the message is by the lengths of its spans
abbrev pub spanned_size : Spans → ℕ
spanned_size p = p.header + p.list.len + p.set.len + p.text.len

unfoldable pub inside : ℕ → Spans → Bool
inside size p = lies size p.list && lies size p.set && lies size p.text && lies size p.revision

-- the bytes of a parameter list: a Characteristics has bits that are not used
unfoldable pub list_bytes : ℕ → List ℕ → List ℕ
list_bytes kind bytes = pick (eqb kind forms.characteristics) (joined (parameters_from forms.characteristics 0 bytes)) bytes
