-- Decoding as one type: each test that fails refuses, and a message that passes them all is its fields.
use mathlib.Core.Path.{◌≡◌, refl, sym, ap, ◌∙◌, subst}
use Prim.Native.Nat.{ℕ, ◌+◌, ◌≤◌, ◌<◌}
use native.Mathlib.Omega.{arith}
use mathlib.Core.Bool.{Bool, true, false, not, ◌&&◌, ◌||◌, false≢true}
use mathlib.Core.List.{List, [], ◌∷◌, map}
use lib.Dec.{eqb, leb}
use lib.ListN.{length, drop_of_length-le, length-drop}
use borrow.Author.Tests.{le-leb, lt-leb, leb-true, leb-false}
use Rattle.rules.specs.Choice.{pick, is_empty, all_are}
use Rattle.rules.specs.Messages.Layout.{byte_at, size_of}
use Rattle.rules.specs.Messages.Parameters.{Shape, cleaned, cut}
use Rattle.rules.specs.Messages.Forms.{Message, Tail, nothing, text, list, form_of, start_read, read_data, write}
use Rattle.rules.specs.Messages.Codec.{Outcome, Held, message, sound, refused, defined_fields, sound_as, fields_as, whole_tail, behind_head, set_in, parameters_in, text_in}
use Rattle.rules.proofs.Choice.{both, thirds, pick_true, pick-false}
use Rattle.fields.specs.declared.Span.{Span}
use Rattle.message.specs.declared.Message as declared
use Rattle.std.specs.Prelude.{Ok, Err}
use Rattle.rules.specs.declared.refusals.Refusal.{Refusal}
use Rattle.rules.specs.declared.refusals.Refusal.TheVariants.{Unsound}
use Rattle.rules.specs.Refusals.{number_of}
use Rattle.fields.specs.Spans.{span_of}
use Rattle.message.specs.Found.{RestFrom, FieldsIn, IsFixed, Finds, parameters_of, plain_message, text_message, list_message, held_in, span_list_of, lies}
use Rattle.message.specs.Found.{as_held, found_in, found_inside, decoded_as}
use Rattle.message.proofs.Heads.{Head}

-- A refusal has no span.
pub finds_refusal : {s : List ℕ} {o : Outcome Held} {n : Refusal} → refused (number_of n) ≡ o → Finds s o (Err n)
unfolding found_in found_inside
finds_refusal e = record { fields = e; inside = refl }

no_first : (a b c : Bool) → a ≡ false → a && b && c ≡ false
no_first a b c e = rw e

no_second : (a b c : Bool) → b ≡ false → a && b && c ≡ false
no_second true b c e = rw e
no_second false b c e = refl

no_third : (a b c : Bool) → c ≡ false → a && b && c ≡ false
no_third true true c e = e
no_third true false c e = refl
no_third false b c e = refl

some_not_empty : (xs : List ℕ) → 0 < length xs → is_empty xs ≡ false
unfolding is_empty
some_not_empty [] h = absurd (omega arith)
some_not_empty (x ∷ xs) h = refl

-- a type whose fields are all defined, whatever they hold
unfoldable pub is_free : ℕ → Bool
is_free kind = not (eqb kind start_read || eqb kind read_data || eqb kind write)

free_choice : (a b c : Bool) (x y z : Bool) → not (a || b || c) ≡ true → pick a x (pick b y (pick c z true)) ≡ true
unfolding pick
free_choice false false false x y z e = refl
free_choice true b c x y z e = absurd (false≢true e)
free_choice false true c x y z e = absurd (false≢true e)
free_choice false false true x y z e = absurd (false≢true e)

module _ (kind : ℕ) (s : List ℕ) where
  abbrev head : ℕ
  head = 1 + size_of (form_of kind).head

  abbrev rest : List ℕ
  rest = behind_head (form_of kind) s

  abbrev fields : Message ℕ
  fields = fields_as (form_of kind) s

  abbrev whole : Bool
  whole = whole_tail (form_of kind).tail rest

  abbrev Refuses : Type 0
  Refuses = Finds s (decoded_as kind s) (Err Unsound)

  refused_by : sound_as (form_of kind) s ≡ false → Refuses
  unfolding decoded_as as_held
  refused_by e = finds_refusal (ap as_held (sym (pick_true _ _ (ap not e))))

  -- cut short in the head
  pub head_cut : length s < head → Refuses
  unfolding sound_as
  head_cut h = refused_by (no_first (leb head (length s)) whole (defined_fields fields) (lt-leb head (length s) h))

  -- cut short behind it, or with bytes left over
  pub tail_unsound : whole ≡ false → Refuses
  unfolding sound_as
  tail_unsound e = refused_by (no_second (leb head (length s)) whole (defined_fields fields) e)

  -- a value that is not defined
  pub field_undefined : defined_fields fields ≡ false → Refuses
  unfolding sound_as
  field_undefined e = refused_by (no_third (leb head (length s)) whole (defined_fields fields) e)

  -- cut short, or its list is unsound
  pub list_unsound : (head ≤ length s → whole ≡ false) → Refuses
  list_unsound e = by_length (leb head (length s)) refl
    where
      by_length : (b : Bool) → leb head (length s) ≡ b → Refuses
      by_length false h = head_cut (leb-false head (length s) h)
      by_length true h = tail_unsound (e (leb-true head (length s) h))

  pub decodes_sound : {m : declared.Message} → FieldsIn kind s m → head ≤ length s → whole ≡ true → defined_fields fields ≡ true →
      Finds s (decoded_as kind s) (Ok m)
  unfolding decoded_as as_held sound_as found_in found_inside
  decodes_sound e n w d =
      let passed = both (both (le-leb head (length s) n) w) d in
      record { fields = ap sound e.fields ∙ ap as_held (sym (pick-false _ _ (ap not passed))); inside = e.inside passed }

  -- what stands behind the head of a message that is not refused
  pub rest_lies : {p : Span} → RestFrom head s p → sound_as (form_of kind) s ≡ true → lies (length s) p ≡ true
  unfolding sound_as
  rest_lies {p} e passed =
      le-leb (p.start + p.len) (length s)
      (e.inside (leb-true head (length s) (thirds (leb head (length s)) whole (defined_fields fields) passed).0))

  -- a test of the fields, made of what the code holds
  pub defined_as : {m : Message ℕ} → message m ≡ message fields → {t : Bool} → defined_fields m ≡ t → defined_fields fields ≡ t
  defined_as {m} e d = let same : m ≡ fields = cc in ap defined_fields (sym same) ∙ d

  module _ (k : byte_at s 0 ≡ kind) where
    pub free_defined : is_free kind ≡ true → defined_fields fields ≡ true
    unfolding defined_fields is_free fields_as
    free_defined e = rw k (free_choice (eqb kind start_read) (eqb kind read_data) (eqb kind write) _ _ _ e)

    -- the fields, one by one; the tail by its name
    module _ {vs : List ℕ} (v : Head (form_of kind).head 1 s vs) (t : Tail) (is : (form_of kind).tail ≡ t) where
      pub fields_are : record { kind = kind; numbers = vs; set = set_in t rest; parameters = parameters_in t rest; text = text_in t rest } ≡ fields
      unfolding fields_as
      fields_are =
          λ i. record {
            kind = sym k i;
            numbers = sym v.same i;
            set = set_in (sym is i) rest;
            parameters = parameters_in (sym is i) rest;
            text = text_in (sym is i) rest;
          }

    -- by a span that reaches to the end
    module _ {vs : List ℕ} (v : Head (form_of kind).head 1 s vs) {p : Span} (e : RestFrom head s p) where
      pub text-fields : (form_of kind).tail ≡ text → text_message kind vs [] (span_of s p) ≡ message fields
      unfolding behind_head set_in parameters_in text_in
      text-fields is = ap (text_message kind vs []) e.same ∙ ap message (fields_are v text is)

      pub list-fields : (shape : Shape) → (form_of kind).tail ≡ list shape → list_message kind vs (parameters_of shape s p) ≡ message fields
      unfolding behind_head parameters_of set_in parameters_in text_in
      list-fields shape is =
          ap (λ bytes. list_message kind vs (map (cleaned shape) (cut shape 0 bytes))) e.same ∙ ap message (fields_are v (list shape) is)

      -- a message whose one span is its list
      pub list_sound : (shape : Shape) → (form_of kind).tail ≡ list shape → is_free kind ≡ true → {m : declared.Message} →
          held_in s m ≡ list_message kind vs (parameters_of shape s p) → span_list_of m ≡ p ∷ [] → head ≤ length s → whole ≡ true →
          Finds s (decoded_as kind s) (Ok m)
      unfolding all_are
      list_sound shape is free held place n w =
          decodes_sound
          (record { fields = held ∙ list-fields shape is; inside = λ passed. ap (all_are (lies (length s))) place ∙ both (rest_lies e passed) refl })
          n w (free_defined free)

  -- Messages of a fixed length.
  module _ (is : (form_of kind).tail ≡ nothing) where
    nothing_behind : whole ≡ is_empty rest
    unfolding whole_tail
    nothing_behind = ap (λ t. whole_tail t rest) is

    fixed_refused : (length s ≡ head → ⊥) → Refuses
    unfolding behind_head
    fixed_refused e = by_length (leb head (length s)) refl
      where
        by_length : (b : Bool) → leb head (length s) ≡ b → Refuses
        by_length false h = head_cut (leb-false head (length s) h)
        by_length true h =
            let l = leb-true head (length s) h in
            let d = length-drop head s in
            let other : length s ≡ head → ⊥ = e in
            tail_unsound (nothing_behind ∙ some_not_empty rest (omega arith))

    fixed_sound : byte_at s 0 ≡ kind → is_free kind ≡ true → length s ≡ head →
        {vs : List ℕ} → Head (form_of kind).head 1 s vs → {m : declared.Message} → held_in s m ≡ plain_message kind vs → span_list_of m ≡ [] →
        Finds s (decoded_as kind s) (Ok m)
    unfolding behind_head is_empty set_in parameters_in text_in all_are
    fixed_sound k e h {vs} v held none =
        let empty = drop_of_length-le s {i = head} (omega arith) in
        decodes_sound (record { fields = held ∙ ap message (fields_are k v nothing is); inside = λ _. ap (all_are (lies (length s))) none })
        (omega arith) (nothing_behind ∙ ap is_empty empty) (free_defined k e)

    pub is_fixed : byte_at s 0 ≡ kind → is_free kind ≡ true →
        {vs : List ℕ} → Head (form_of kind).head 1 s vs → {m : declared.Message} → held_in s m ≡ plain_message kind vs → span_list_of m ≡ [] →
        IsFixed head s m
    is_fixed k e v {m} held none =
        record {
          is = λ h. subst (λ n. Finds s (decoded_as n s) (Ok m)) (sym k) (fixed_sound k e h v held none);
          other = λ h. subst (λ n. Finds s (decoded_as n s) (Err Unsound)) (sym k) (fixed_refused h);
        }
