-- Characteristics and Read Characteristics: the five that are carried (000, 4.16.11, 4.16.12 and 4.17.2).
use Rattle.std.specs.Prelude.{ℕ, zero, suc, ◌+◌, ◌*◌, ◌/◌, ◌%◌, Bool, false, not, ◌||◌, List, [], ◌∷◌, map, eqb, get_or, set}
use Rattle.rules.specs.Choice.{pick, is_on, bit, any_is, all_are}
use Rattle.rules.specs.Messages.Layout.{byte_at}
use Rattle.rules.specs.Messages.Parameters.{first_in, second_in, first_value_at, second_value_at, third_value_at, selector}
use Rattle.rules.specs.Messages.Parameters.{character_attributes, raise_input, normal_echo, escape_recognition, auto_prompt}
use Rattle.rules.specs.Messages.Forms.{Message, characteristics}
use Rattle.rules.specs.State.{Host, Switches, with_switches, with_attributes}

-- a selector of the five
unfoldable pub is_carried : ℕ → Bool
is_carried n =
    eqb n character_attributes || eqb n raise_input || eqb n normal_echo || eqb n escape_recognition || eqb n auto_prompt

-- so many low bits: the new one where the mask has 1, the old one where it has 0
unfoldable pub masked : ℕ → ℕ → ℕ → ℕ → ℕ
masked zero mask old new = 0
masked (suc width) mask old new =
    pick (is_on (mask % 2)) (new % 2) (old % 2) + 2 * masked width (mask / 2) (old / 2) (new / 2)

-- behind a parameter's selector: a switch's value, or CHARACTER, MASK and ATTRIBUTES
abbrev pub value_in : List ℕ → ℕ
value_in p = byte_at p first_value_at

abbrev pub character_in : List ℕ → ℕ
character_in p = byte_at p first_value_at

abbrev pub mask_in : List ℕ → ℕ
mask_in p = byte_at p second_value_at

abbrev pub attributes_in : List ℕ → ℕ
attributes_in p = byte_at p third_value_at

-- the used bits of an attribute, and the mask that has them all
abbrev pub attribute_bits : ℕ
attribute_bits = 7

abbrev pub whole_mask : ℕ
whole_mask = 127

-- they act on one place of the table
unfoldable pub with_attribute : List ℕ → List ℕ → List ℕ
with_attribute p table =
    set table (character_in p) (masked attribute_bits (mask_in p) (get_or table (character_in p) 0) (attributes_in p))

unfoldable pub with_switch : ℕ → Bool → Switches → Switches
with_switch n on s =
    record {
      raising = pick (eqb n raise_input) on s.raising;
      echoing = pick (eqb n normal_echo) on s.echoing;
      recognising = pick (eqb n escape_recognition) on s.recognising;
      prompting = pick (eqb n auto_prompt) on s.prompting;
    }

-- one parameter of a Characteristics message, and all of them in order
unfoldable pub with_parameter : List ℕ → Host → Host
with_parameter p h =
    pick (eqb (selector p) character_attributes) (with_attributes (with_attribute p h.attributes) h)
    (with_switches (with_switch (selector p) (is_on (value_in p)) h.switches) h)

unfoldable pub with_parameters : List (List ℕ) → Host → Host
with_parameters [] h = h
with_parameters (p ∷ ps) h = with_parameters ps (with_parameter p h)

-- the out-of-band field of an attribute, how many values it has, and what they say; 0 is none
abbrev pub out_of_band_values : ℕ
out_of_band_values = 4

abbrev pub out_of_band_field : ℕ → ℕ
out_of_band_field attribute = attribute % out_of_band_values

abbrev pub immediate_clear : ℕ
immediate_clear = 1

abbrev pub deferred_clear : ℕ
deferred_clear = 2

abbrev pub hello : ℕ
hello = 3

unfoldable pub is_deferred_clear : ℕ → Bool
is_deferred_clear attribute = eqb (out_of_band_field attribute) deferred_clear

-- what a switch's selector reports
unfoldable pub switch_of : ℕ → Switches → Bool
switch_of n s =
    pick (eqb n raise_input) s.raising
    (pick (eqb n normal_echo) s.echoing
    (pick (eqb n escape_recognition) s.recognising
    s.prompting))

-- the answer to one parameter of Read Characteristics
unfoldable pub reported : Host → List ℕ → List ℕ
reported h p =
    pick (eqb (selector p) character_attributes)
    (first_in p ∷ second_in p ∷ character_in p ∷ whole_mask ∷ get_or h.attributes (character_in p) 0 ∷ [])
    (first_in p ∷ second_in p ∷ bit (switch_of (selector p) h.switches) ∷ [])

unfoldable pub report : {C : Type 0} → Host → Message ℕ → Message C
report h m =
    record { kind = characteristics; numbers = []; set = []; parameters = map (reported h) m.parameters; text = [] }

-- Characteristics are carried where all are of the five and no character is left deferred-clear
unfoldable pub carries_settings : Host → Message ℕ → Bool
carries_settings h m =
    pick (all_are (λ p. is_carried (selector p)) m.parameters)
    (not (any_is is_deferred_clear (with_parameters m.parameters h).attributes))
    false
