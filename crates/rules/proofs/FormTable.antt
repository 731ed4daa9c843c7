-- What the table of forms meets: the fields of each group have room in its bytes, and each shape of parameters can be cleaned.
use mathlib.Core.Path.{◌≡◌, refl}
use Prim.Native.Nat.{ℕ, zero, suc}
use mathlib.Core.Bool.{true}
use mathlib.Core.List.{List, [], ◌∷◌, ◌++◌}
use lib.ListN.{get_or}
use Rattle.rules.specs.Choice.{all_are}
use Rattle.rules.specs.Messages.Parameters.{Shape}
use Rattle.rules.specs.Messages.Forms.{Tail, nothing, text, set_and_text, list, Form, forms, no_form, form_of}
use Rattle.rules.specs.Messages.Unused.{bits_of}
use Rattle.rules.proofs.Choice.{all_at}
use Rattle.rules.proofs.Fields.{roomy}
use Rattle.rules.proofs.Parameters.{Cleanable, initiation_cleanable, question_cleanable, setting_cleanable}

-- one test over the table
pub form_roomy : (kind : ℕ) → roomy (form_of kind).head ≡ true
unfolding form_of forms roomy all_are bits_of
form_roomy kind = all_at (λ f. roomy f.head) (no_form ∷ forms) no_form refl refl kind

-- the shapes of a tail, and of the table
abbrev pub shapes_in : Tail → List Shape
shapes_in nothing = []
shapes_in text = []
shapes_in set_and_text = []
shapes_in (list shape) = shape ∷ []

abbrev table_shapes : List Form → List Shape
table_shapes [] = []
table_shapes (f ∷ fs) = shapes_in f.tail ++ table_shapes fs

abbrev pub EachCleanable : List Shape → Type 0
EachCleanable [] = Unit {0}
EachCleanable (s ∷ ss) = Cleanable s × EachCleanable ss

each_split : (ss rs : List Shape) → EachCleanable (ss ++ rs) → EachCleanable ss × EachCleanable rs
each_split [] rs c = (tt, c)
each_split (s ∷ ss) rs c = let r = each_split ss rs c.1 in ((c.0, r.0), r.1)

each_at : (fs : List Form) (k : ℕ) → EachCleanable (table_shapes fs) → EachCleanable (shapes_in (get_or fs k no_form).tail)
each_at [] k c = tt
each_at (f ∷ fs) zero c = (each_split (shapes_in f.tail) (table_shapes fs) c).0
each_at (f ∷ fs) (suc k) c = each_at fs k (each_split (shapes_in f.tail) (table_shapes fs) c).1

pub form_cleanable : (kind : ℕ) → EachCleanable (shapes_in (form_of kind).tail)
unfolding form_of forms
form_cleanable kind = each_at (no_form ∷ forms) kind (initiation_cleanable, (question_cleanable, (setting_cleanable, tt)))
