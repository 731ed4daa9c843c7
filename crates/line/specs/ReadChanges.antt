-- What the methods on a read promise.
use Rattle.std.specs.Prelude.{ℕ, ◌+◌, ◌-◌, ◌≤◌, ◌<◌, ◌≡◌, Bool, false, not, List, [], length, take, drop}
use Rattle.rules.specs.Numbers.{input_size}
use Rattle.rules.specs.Choice.{pick, any_is}
use Rattle.rules.specs.State as rules
use Rattle.rules.specs.Screen.{rub_out}
use Rattle.rules.specs.Editing.{is_word, left_by_delete_word, input_codes, displayed, shortened, rub_out_bytes}
use Rattle.rules.specs.Steps.{appended}
use Rattle.screen.specs.Marks.{is_tab}
use Rattle.screen.specs.declared.RubOut.{RubOut}
use Rattle.line.specs.declared.Terms.{Terms}
use Rattle.line.specs.declared.Reading.{Reading}
use Rattle.line.specs.declared.Line.{Line}
use Rattle.line.specs.View.{reading_of}
use Rattle.line.specs.With.{lent}

-- a read that goes on: room for one character more, in front of the prompt
pub record HasRoom (t : Terms) (r : Reading) : Type 0 where
  pub largest : t.max_length ≤ input_size
  pub room : t.end_of_prompt + r.input_len < t.max_length
  pub prompt : t.prompt_len ≤ t.end_of_prompt

-- its first characters left
pub record Shortened (left : ℕ) (t : Terms) (r next : Reading) : Type 0 where
  pub same : (text : List ℕ) (l : Line) → reading_of (lent t text l) next ≡ shortened left (reading_of (lent t text l) r)
  pub count : next.input_len ≡ left

-- more characters, in a text that has room for them in front of the prompt
pub record Appends (cs : List ℕ) (r : Reading) (text : List ℕ) (next : Reading) (text' : List ℕ) : Type 0 where
  pub same : (t : Terms) (l : Line) → r.input_len + length cs + t.prompt_len ≤ input_size →
      reading_of (lent t text' l) next ≡ appended cs (reading_of (lent t text l) r)
  pub count : next.input_len ≡ r.input_len + length cs
  pub size : length text' ≡ length text

-- what is displayed of it begins here
pub record ShownFrom (r : Reading) (start : ℕ) : Type 0 where
  pub text : (l : Line) → take (r.input_len - start) (drop start l.text) ≡ displayed rules.codes (reading_of l r)
  pub within : start ≤ r.input_len

-- what is rubbed out when all but the first characters after END-OF-PROMPT are deleted: nothing in a read that does not echo
unfoldable pub rubbed_out : ℕ → rules.Reading ℕ → List ℕ
rubbed_out left r = pick r.terms.echoes (drop left r.input) []

-- how many columns are worked out: at least one for each character rubbed out, at most one for each that deleting all would rub out;
-- where no tab is rubbed out, exactly the least
pub record InOnePass (left : ℕ) (r : rules.Reading ℕ) (columns : ℕ) : Type 0 where
  pub least : length (rubbed_out left r) ≤ columns
  pub most : columns ≤ length (rubbed_out 0 r)
  pub without_tab : any_is is_tab (rubbed_out left r) ≡ false → columns ≡ length (rubbed_out left r)

-- what deleting rubs out, and the columns that were worked out to find it
pub record RubsOut (left : ℕ) (r : rules.Reading ℕ) (found : RubOut) : Type 0 where
  pub marks : rub_out found.marks ≡ rub_out_bytes rules.codes left r
  pub once : InOnePass left r found.columns

-- what 23 leaves of it
pub record LeftByDeleteWord (text : List ℕ) (r : Reading) (left : ℕ) : Type 0 where
  pub left_by : (t : Terms) (l : Line) → left ≡ left_by_delete_word (input_codes rules.codes (reading_of (lent t text l) r))
  pub within : left ≤ r.input_len

-- a word's characters, or those between words
unfoldable pub of_class : Bool → ℕ → Bool
of_class word n = pick word (is_word n) (not (is_word n))

-- with idle, or with the column where its data's display begins, set
abbrev pub idling : ℕ → Reading → Reading
idling idle r =
    record { input_len = r.input_len; low_water = r.low_water; hidden_lf = r.hidden_lf; display_column = r.display_column; idle = idle }

abbrev pub shown_at : ℕ → Reading → Reading
shown_at column r =
    record { input_len = r.input_len; low_water = r.low_water; hidden_lf = r.hidden_lf; display_column = column; idle = r.idle }
