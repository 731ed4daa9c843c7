-- What stands after a read's prompt.
use mathlib.Core.Path.{◌≡◌, refl, sym}
use Prim.Native.Nat.{ℕ, ◌+◌, ◌≤◌, min}
use mathlib.Core.Bool.{◌&&◌}
use lib.Dec.{ltb}
use lib.Seq.{take-take}
use Rattle.rules.specs.Editing as rules
use Rattle.line.specs.declared.Terms.{Terms}
use Rattle.line.specs.declared.Reading.{Reading}
use Rattle.line.specs.View.{input_of, terms_of}
use Rattle.line.specs.With.{lent}
use Rattle.line.specs.ReadChanges.{Shortened}

-- a read with its first characters left, as the program makes it
abbrev with_left : ℕ → ℕ → Reading → Reading
with_left left low r =
    record { input_len = left; low_water = low; hidden_lf = r.hidden_lf && ltb 0 left; display_column = r.display_column; idle = r.idle }

pub left_becomes : (t : Terms) (r : Reading) (left low : ℕ) → left ≤ r.input_len → low ≡ min r.low_water (t.end_of_prompt + left) →
    Shortened left t r (with_left left low r)
unfolding rules.shortened input_of
left_becomes t r left low h e =
    record {
      same = λ text l i. record {
        terms = terms_of (lent t text l);
        input = sym (take-take left r.input_len text h) i;
        low_water = e i;
        hidden_lf = r.hidden_lf && ltb 0 left;
        display_column = r.display_column;
        idle = r.idle;
      };
      count = refl;
    }
