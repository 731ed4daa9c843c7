-- Our Initiate, in the pieces in which it is put.
use mathlib.Core.Path.{◌≡◌, refl}
use Prim.Native.Nat.{ℕ}
use mathlib.Core.List.{List, ◌++◌}
use lib.ListN.{replicate}
use Rattle.rules.specs.Numbers.{message_size, input_size}
use Rattle.rules.specs.Choice.{joined}
use Rattle.rules.specs.Messages.Layout.{fields_in, number_of, bytes_of, write_groups, framed}
use Rattle.rules.specs.Messages.Forms.{forms, form_of}
use Rattle.rules.specs.Messages.Codec.{tail_bytes, bytes_as}
use Rattle.rules.specs.Calls.{sent_bytes}
use Rattle.rules.specs.Host.{our_initiate}
use Rattle.message.specs.declared.Message.{Message}
use Rattle.message.specs.declared.Message.TheVariants.{Initiate}
use Rattle.fields.specs.Spans.{span_of}
use Rattle.message.specs.Found.{held_in}
use Rattle.writing.specs.Spans.{spans_of, spanned_size}
use Rattle.fronts.specs.Front.{front_tail, front_bytes}

-- its head, with places for eight bytes and for the parameters behind them
abbrev pub head : Message
head =
    Initiate (record {
      version = 1;
      eco = 0;
      modification = 0;
      revision = record { start = 0; len = 8 };
      parameters = record { start = 8; len = 12 };
    })

abbrev pub parameter : ℕ → ℕ → List ℕ
parameter kind value = bytes_of 2 kind ++ bytes_of 2 value

pub our_bytes :
    (bytes_of 2 (spanned_size (spans_of head)) ++ front_bytes (held_in (replicate 8 32) head)) ++
    (parameter 0x0201 message_size ++ (parameter 0x0202 input_size ++ parameter 0x0203 0x7FFE))
    ≡ framed (sent_bytes our_initiate)
unfolding spans_of front_bytes front_tail held_in span_of framed sent_bytes our_initiate bytes_as tail_bytes joined forms form_of write_groups fields_in number_of
our_bytes = refl
