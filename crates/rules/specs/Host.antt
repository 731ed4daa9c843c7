-- What an accepted host message does: Initiate, Clear Input, and the rest by their own rules.
use Rattle.std.specs.Prelude.{ℕ, true, List, [], ◌∷◌, eqb, replicate}
use Rattle.rules.specs.Choice.{pick}
use Rattle.rules.specs.Numbers.{message_size, input_size}
use Rattle.rules.specs.Messages.Layout.{word_bytes, bytes_of}
use Rattle.rules.specs.Messages.Forms as forms
use Rattle.rules.specs.Messages.Forms.{Message, revision_size}
use Rattle.rules.specs.Screen.{SP}
use Rattle.rules.specs.State.{Characters, with_host, with_initiated}
use Rattle.rules.specs.Turns.{Rule, sends, changes, here, ◌then◌}
use Rattle.rules.specs.ReadData.{unreads, checks_input}
use Rattle.rules.specs.Arrival.{rubbing_out, clear_rule}
use Rattle.rules.specs.StartRead.Acceptance.{starts_read}
use Rattle.rules.specs.Write.{writes_out}
use Rattle.rules.specs.Characteristics.{with_parameters, report}

-- VERSION, ECO and MOD of ours
abbrev pub version : ℕ
version = 1

abbrev pub eco : ℕ
eco = 0

abbrev pub modification : ℕ
modification = 0

-- PARMTYPE: the largest message, the input buffer, and the messages that are understood, a bit for each
abbrev pub message_parameter : ℕ
message_parameter = 1

abbrev pub input_parameter : ℕ
input_parameter = 2

abbrev pub supported_parameter : ℕ
supported_parameter = 3

abbrev pub messages_1_to_14 : List ℕ
messages_1_to_14 = 0xFE ∷ 0x7F ∷ []

-- our Initiate: version 1.0.0, spaces, and parameters 1 (message size), 2 (input size) and 3 (messages 1 to 14), each with its count
unfoldable pub our_initiate : {D : Type 0} → Message D
our_initiate =
    record {
      kind = forms.initiate;
      numbers = version ∷ eco ∷ modification ∷ replicate revision_size SP;
      set = [];
      parameters =
          (message_parameter ∷ word_bytes ∷ bytes_of word_bytes message_size) ∷
          (input_parameter ∷ word_bytes ∷ bytes_of word_bytes input_size) ∷
          (supported_parameter ∷ word_bytes ∷ messages_1_to_14) ∷
          [];
      text = [];
    }

module _ {C : Type 0} where
  unfoldable pub initiates : Rule C
  initiates = changes (λ s. with_host (with_initiated true s.host) s) then sends our_initiate

  unfoldable pub reports : Message ℕ → Rule C
  reports m = here (λ s. sends (report s.host m))

  unfoldable pub sets_characteristics : Message ℕ → Rule C
  sets_characteristics m = changes (λ s. with_host (with_parameters m.parameters s.host) s)

module _ {C : Type 0} (chars : Characters C) where
  -- by its type
  unfoldable pub obeys : Message ℕ → Rule C
  obeys m =
      pick (eqb m.kind forms.initiate) initiates
      (pick (eqb m.kind forms.start_read) (starts_read chars m)
      (pick (eqb m.kind forms.unread) (unreads chars m)
      (pick (eqb m.kind forms.clear_input) (clear_rule chars rubbing_out)
      (pick (eqb m.kind forms.write) (writes_out chars m)
      (pick (eqb m.kind forms.read_characteristics) (reports m)
      (pick (eqb m.kind forms.characteristics) (sets_characteristics m)
      checks_input))))))
