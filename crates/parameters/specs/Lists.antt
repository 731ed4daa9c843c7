-- Parameter lists in a slice. `kind` is the type of the message that the list stands in.
use Rattle.std.specs.Prelude.{◌≡◌, ℕ, zero, ◌+◌, ◌-◌, ◌/◌, ◌%◌, ◌<◌, Bool, List, [], ◌∷◌, ◌++◌, map, ltb, eqb, length, take, drop}
use Rattle.rules.specs.Choice.{pick, all_are}
use Rattle.rules.specs.Messages.Layout.{word_bytes, byte_values, byte_at, bytes_of}
use Rattle.rules.specs.Messages.Parameters.{Shape, initiation, question, setting, first_value_at, second_value_at, third_value_at, selector, parameter_size, sound_parameter, cleaned, cut}
use Rattle.rules.specs.Messages.Forms as forms
use Rattle.parameters.specs.declared.Parameter.{Parameter}
use Rattle.parameters.specs.declared.kinds.ListKind.{ListKind}
use Rattle.parameters.specs.declared.kinds.ListKind.TheVariants.{Initiation, Question, Setting}

-- the kind of list that a type of message has
unfoldable pub shape_of : ℕ → Shape
shape_of kind = pick (eqb kind forms.initiate) initiation (pick (eqb kind forms.read_characteristics) question setting)

-- the three kinds
unfoldable pub kind_shape : ListKind → Shape
kind_shape Initiation = initiation
kind_shape Question = question
kind_shape Setting = setting

-- the parameter that begins at a place, or what is there of it
unfoldable pub parameter_at : ℕ → ℕ → List ℕ → List ℕ
parameter_at kind at s = take (parameter_size (shape_of kind) (drop at s)) (drop at s)

-- every parameter from a place on is whole and defined
unfoldable pub sound_from : ℕ → ℕ → List ℕ → Bool
sound_from kind at s = all_are (sound_parameter (shape_of kind)) (cut (shape_of kind) zero (drop at s))

-- the parameters from a place on, unused bits set to 0
unfoldable pub parameters_from : ℕ → ℕ → List ℕ → List (List ℕ)
parameters_from kind at s = map (cleaned (shape_of kind)) (cut (shape_of kind) zero (drop at s))

-- a byte's limit as a mask of the bits below it
abbrev pub mask : ℕ → ℕ
mask limit = limit - 1

-- the parameter at a place, unused bits set to 0
abbrev pub used_at : ℕ → ℕ → List ℕ → List ℕ
used_at kind at s = cleaned (shape_of kind) (parameter_at kind at s)

-- where the parameter behind the one at a place begins; from the end on, the place itself
unfoldable pub next_from : ℕ → ℕ → List ℕ → ℕ
next_from kind at s = pick (ltb at (length s)) (at + parameter_size (shape_of kind) (drop at s)) at

-- the bytes that a parameter is known by
abbrev pub known_bytes : Parameter → List ℕ
known_bytes p = p.selector % byte_values ∷ p.selector / byte_values ∷ p.first ∷ p.second ∷ p.third ∷ []

-- one parameter of a list: its selector, the three bytes behind it that a line looks at, and where the next one begins; from
-- the end on it is empty, so that its selector and bytes are 0
pub record ParameterIs (kind at : ℕ) (s : List ℕ) (p : Parameter) : Type 0 where
  pub selected : p.selector ≡ selector (used_at kind at s)
  pub one : p.first ≡ byte_at (used_at kind at s) first_value_at
  pub two : p.second ≡ byte_at (used_at kind at s) second_value_at
  pub three : p.third ≡ byte_at (used_at kind at s) third_value_at
  pub behind : p.next ≡ next_from kind at s
  pub further : at < length s → at < p.next
  -- the list from here on is this parameter and the list from the next one on
  pub list : at < length s → parameters_from kind at s ≡ used_at kind at s ∷ parameters_from kind p.next s

-- a parameter of a Characteristics: its selector, and so many of these bytes
unfoldable pub setting_bytes : ℕ → ℕ → ℕ → ℕ → ℕ → List ℕ
setting_bytes id first second third count = bytes_of word_bytes id ++ take count (first ∷ second ∷ third ∷ [])
