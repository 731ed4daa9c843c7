-- Start Read: its fields, made of what the code reads, and its tail.
use mathlib.Core.Path.{◌≡◌, refl, sym, ap, ap₂, ◌∙◌}
use Prim.Native.Nat.{ℕ, ◌+◌, ◌-◌, ◌≤◌}
use native.Mathlib.Omega.{arith}
use mathlib.Core.Bool.{Bool, true, false, ◌&&◌}
use mathlib.Core.List.{List, [], ◌∷◌, ◌++◌}
use lib.Dec.{leb, ltb}
use lib.ListN.{length, take, drop, length-drop}
use lib.Seq.{drop-drop}
use borrow.Author.Tests.{le-leb, le-ltb, ltb-true}
use Rattle.rules.specs.Choice.{all_are}
use Rattle.rules.specs.Messages.Layout.{word, byte_at, size_of, number_at}
use Rattle.rules.specs.Messages.Forms.{set_and_text, forms, form_of, start_read_widths}
use Rattle.rules.specs.Messages.Codec.{message, behind_head, whole_tail, defined_fields, sound_as, fields_as, set_in, parameters_in, text_in}
use Rattle.rules.proofs.Choice.{both, halves, thirds}
use Rattle.std.specs.Prelude.{Err}
use Rattle.rules.specs.declared.refusals.Refusal.TheVariants.{Unsound}
use Rattle.fields.specs.declared.Span.{Span}
use Rattle.message.specs.declared.StartReadFields.{StartReadFields}
use Rattle.fields.specs.Spans.{span_of}
use Rattle.message.specs.Found.{RestFrom, FlagsAre, StartReadIs, Finds, start_read_in, held_in, span_list_of, lies, decoded_as}
use Rattle.fields.proofs.Numbers.{byte_behind}
use Rattle.message.proofs.Heads.{Head, flags_first}
use Rattle.message.proofs.Decoding.{tail_unsound, field_undefined, fields_are}

no_right : (a b : Bool) → b ≡ false → a && b ≡ false
no_right true b e = e
no_right false b e = refl

module _ (s : List ℕ) {count : ℕ} (counted : count ≡ byte_at s 16) where
  abbrev rest : List ℕ
  rest = drop 16 s

  count_behind : byte_at rest 0 ≡ count
  count_behind = byte_behind s 16 ∙ sym counted

  pub whole_set : whole_tail (form_of 2).tail (behind_head (form_of 2) s) ≡ ltb count (length s - 16) && leb count 32
  unfolding form_of forms size_of behind_head whole_tail
  whole_set = ap₂ (λ n l. ltb n l && leb n 32) count_behind (length-drop 16 s)

  -- the set or the text is cut short
  pub set_cut : (17 + count ≤ length s → ⊥) → Finds s (decoded_as 2 s) (Err Unsound)
  set_cut e =
      let short : 17 + count ≤ length s → ⊥ = e in
      tail_unsound 2 s (whole_set ∙ ap (λ t. t && leb count 32) (le-ltb count (length s - 16) (omega arith)))

  -- the set is too long, or a value is not defined
  pub set_unsound : {sound : Bool} → defined_fields (fields_as (form_of 2) s) ≡ sound → leb count 32 && sound ≡ false → Finds s (decoded_as 2 s) (Err Unsound)
  set_unsound {sound} d = by_count (leb count 32) refl
    where
      by_count : (t : Bool) → leb count 32 ≡ t → t && sound ≡ false → Finds s (decoded_as 2 s) (Err Unsound)
      by_count false e n = tail_unsound 2 s (whole_set ∙ no_right (ltb count (length s - 16)) (leb count 32) e)
      by_count true e n = field_undefined 2 s (d ∙ n)

  module _ {text : Span} (behind : RestFrom (17 + count) s text) where
    set_behind : take count (drop 17 s) ≡ set_in set_and_text rest
    unfolding set_in
    set_behind = ap₂ take (sym count_behind) (sym (drop-drop 1 16 s))

    text_behind : span_of s text ≡ text_in set_and_text rest
    unfolding text_in
    text_behind = behind.same ∙ sym (drop-drop count 17 s) ∙ ap₂ drop (sym count_behind) (sym (drop-drop 1 16 s))

    both_lie : sound_as (form_of 2) s ≡ true → all_are (lies (length s)) (record { start = 17; len = count } ∷ text ∷ []) ≡ true
    unfolding sound_as form_of forms size_of all_are
    both_lie e =
        let tests = thirds (leb 16 (length s)) (whole_tail (form_of 2).tail (behind_head (form_of 2) s)) (defined_fields (fields_as (form_of 2) s)) e in
        let counts = halves (ltb count (length s - 16)) (leb count 32) (sym whole_set ∙ tests.1) in
        let h = ltb-true count (length s - 16) counts.0 in
        both (le-leb (17 + count) (length s) (omega arith))
        (both (le-leb (text.start + text.len) (length s) (behind.inside (omega arith))) refl)

    pub start_read_is : byte_at s 0 ≡ 2 → {f : StartReadFields} → FlagsAre s (record { start = 17; len = count }) text f →
        Head (word ∷ word ∷ word ∷ word ∷ word ∷ word ∷ []) 4 s
        (f.max_length ∷ f.end_of_data ∷ f.timeout ∷ f.end_of_prompt ∷ f.start_of_display ∷ f.low_water ∷ []) →
        StartReadIs s f
    unfolding held_in span_list_of start_read_in span_of form_of forms size_of behind_head set_in parameters_in text_in
    start_read_is k {f} are words =
        let flags = flags_first 3 start_read_widths (number_at 3 1 s) refl words in
        let set = ap (span_of s) are.set_kept ∙ set_behind in
        let text = ap (span_of s) are.text_kept ∙ text_behind in
        let size = length-drop (17 + count) s in
        record {
          found = record {
            fields =
                ap message
                ((λ i. record {
                  kind = 2;
                  numbers = are.flags i ++ f.max_length ∷ f.end_of_data ∷ f.timeout ∷ f.end_of_prompt ∷ f.start_of_display ∷ f.low_water ∷ [];
                  set = set i;
                  parameters = [];
                  text = text i;
                }) ∙
                fields_are 2 s k flags set_and_text refl);
            inside = λ e. ap₂ (λ p q. all_are (lies (length s)) (p ∷ q ∷ [])) are.set_kept are.text_kept ∙ both_lie e;
          };
          long =
              ap (λ p. length (span_of s p)) are.text_kept ∙ ap length behind.same ∙ size ∙ sym behind.long ∙
              ap (λ (p : Span). p.len) (sym are.text_kept);
        }
