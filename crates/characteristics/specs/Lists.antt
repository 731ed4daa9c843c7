-- Characteristics and Read Characteristics by the bytes of their parameter list, and the bytes of the answer.
use Rattle.std.specs.Prelude.{ℕ, ◌+◌, List, [], map}
use Rattle.rules.specs.Choice.{pick, joined}
use Rattle.rules.specs.Messages.Forms as forms
use Rattle.rules.specs.Messages.Forms.{Message}
use Rattle.rules.specs.Messages.Parameters.{parameter_head, longest_value}
use Rattle.rules.specs.State.{Host, fresh, with_host}
use Rattle.rules.specs.Characteristics.{reported, report}
use Rattle.rules.specs.Messages.Layout.{framed}
use Rattle.rules.specs.Calls.{sent_bytes, carries_questions}
use Rattle.parameters.specs.Lists.{parameters_from}

-- the bytes of the longest answer to one question: SELECTOR, CHARACTER, MASK and ATTRIBUTES
abbrev pub longest_answer : ℕ
longest_answer = parameter_head + longest_value

-- a message of each type, by its list
abbrev pub settings_in : List ℕ → Message ℕ
settings_in list =
    record { kind = forms.characteristics; numbers = []; set = []; parameters = parameters_from forms.characteristics 0 list; text = [] }

abbrev pub questions_in : List ℕ → Message ℕ
questions_in list =
    record { kind = forms.read_characteristics; numbers = []; set = []; parameters = parameters_from forms.read_characteristics 0 list; text = [] }

-- the answers to the questions from a place on
unfoldable pub answers_from : ℕ → List ℕ → Host → List ℕ
answers_from at list h = joined (map (reported h) (parameters_from forms.read_characteristics at list))

-- the answer behind its length
unfoldable pub answer_to : List ℕ → Host → List ℕ
answer_to list h = framed (sent_bytes (report h (questions_in list)))

-- the answer where it is carried, whatever else the line holds; else nothing
unfoldable pub report_bytes : Host → List ℕ → List ℕ
report_bytes h list = pick (carries_questions {C = ℕ} (with_host h fresh) (questions_in list)) (answer_to list h) []
