-- The section of the attributes sets them as Characteristics would: a parameter for each code, with the whole mask.
use mathlib.Core.Path.{◌≡◌, refl, sym, ap, ◌∙◌}
use Prim.Native.Nat.{ℕ, zero, suc, ◌-◌, ◌/◌, ◌%◌, ◌^◌, ◌<◌}
use native.Mathlib.Nat.{two-pow-succ}
use native.Mathlib.Omega.{arith}
use mathlib.Core.Bool.{true, false, not}
use mathlib.Core.List.{List, [], ◌∷◌, ◌++◌}
use lib.Dec.{ltb}
use lib.ListN.{length, get_or, set, length-append}
use lib.Seq.{append_snoc, set_at}
use borrow.Author.Tests.{ltb-true, eq-eqb}
use Rattle.rules.specs.Choice.{pick, is_empty, all_are}
use Rattle.rules.specs.Numbers.{code_count}
use Rattle.rules.specs.Messages.Layout.{fields_in}
use Rattle.rules.specs.Messages.Parameters.{seven_bits, setting, sound_parameter}
use Rattle.rules.specs.Messages.Codec.{all_bytes}
use Rattle.rules.specs.State.{Host, with_attributes}
use Rattle.rules.specs.Characteristics.{masked, attribute_bits, whole_mask, with_attribute, with_parameter, with_parameters, is_deferred_clear}
use Rattle.rules.specs.Settings.{sound_pairs, table_in, attribute_parameter, attribute_parameters_from, attribute_parameters, is_sayable}
use Rattle.rules.specs.Bounds.{is_attribute}
use Rattle.rules.specs.Whole.{whole}
use Rattle.rules.proofs.Choice.{both, halves, pick_true, all_cons}
use Rattle.rules.proofs.Settings.Pairs.{pairs_sayable}

-- A mask of ones alone leaves no old bit, and the whole mask is one.
masked_ones : (width old new : ℕ) → new < 2 ^ width → masked width (2 ^ width - 1) old new ≡ new
unfolding masked
masked_ones zero old new under = omega arith
masked_ones (suc width) old new under =
    let double = two-pow-succ width in
    let odd : (2 ^ suc width - 1) % 2 ≡ 1 = omega arith in
    let half : (2 ^ suc width - 1) / 2 ≡ 2 ^ width - 1 = omega arith in
    let low = pick_true (new % 2) (old % 2) (eq-eqb _ 1 odd) in
    let rest = ap (λ mask. masked width mask (old / 2) (new / 2)) half ∙ masked_ones width (old / 2) (new / 2) (omega arith) in
    omega arith

masked_whole : (old new : ℕ) → new < seven_bits → masked attribute_bits whole_mask old new ≡ new
masked_whole = masked_ones attribute_bits

-- So a parameter sets its place, and a table's set all places in order: those in front are set, the others still old.
parameter_sets : (code value : ℕ) (table : List ℕ) (h : Host) → value < seven_bits →
    with_parameter (attribute_parameter code value) (with_attributes table h) ≡ with_attributes (set table code value) h
unfolding with_parameter with_attribute fields_in pick
parameter_sets code value table h under = ap (λ v. with_attributes (set table code v) h) (masked_whole (get_or table code 0) value under)

places_set : (table old front : List ℕ) (code : ℕ) (h : Host) → length front ≡ code → length old ≡ length table → all_are is_attribute table ≡ true →
    with_parameters (attribute_parameters_from code table) (with_attributes (front ++ old) h) ≡ with_attributes (front ++ table) h
unfolding with_parameters attribute_parameters_from is_attribute
places_set [] [] front code h at same e = refl
places_set [] (o ∷ old) front code h at same e = absurd (omega arith)
places_set (v ∷ table) [] front code h at same e = absurd (omega arith)
places_set (v ∷ table) (o ∷ old) front code h at same e =
    let t = all_cons is_attribute v table e in
    let first = parameter_sets code v (front ++ o ∷ old) h (ltb-true v seven_bits t.0) in
    let placed = set_at front o old v code at in
    let l = length-append front (v ∷ []) in
    let later = simp append_snoc at (places_set table old (front ++ v ∷ []) (suc code) h (omega arith) (omega arith) t.1) in
    ap (with_parameters (attribute_parameters_from (suc code) table)) (first ∙ ap (λ a. with_attributes a h) placed) ∙ later

pub attributes_set : (table : List ℕ) → length table ≡ code_count → all_are is_attribute table ≡ true → (h : Host) → length h.attributes ≡ code_count →
    with_parameters (attribute_parameters table) h ≡ with_attributes table h
attributes_set table size e h old = places_set table h.attributes [] 0 h refl (old ∙ sym size) e

-- A section sets the table that it says, as Characteristics with that table's parameters would.
sayable_attributes : (table : List ℕ) → all_are is_sayable table ≡ true → all_are is_attribute table ≡ true
unfolding all_are is_sayable is_attribute
sayable_attributes [] e = refl
sayable_attributes (v ∷ table) e =
    let t = all_cons is_sayable v table e in
    both (halves (ltb v seven_bits) (not (is_deferred_clear v)) t.0).0 (sayable_attributes table t.1)

pub pairs_set : (bytes : List ℕ) → all_bytes bytes ≡ true → sound_pairs 0 bytes ≡ true → is_empty bytes ≡ false → (h : Host) →
    length h.attributes ≡ code_count → with_parameters (attribute_parameters (table_in bytes)) h ≡ with_attributes (table_in bytes) h
pairs_set bytes e sound filled h old =
    let s = pairs_sayable bytes e sound filled in
    attributes_set (table_in bytes) s.size (sayable_attributes (table_in bytes) s.values) h old

-- Each is a parameter that a Characteristics message may have, and it is the same in however many messages they come.
pub attribute_parameters_sound : (table : List ℕ) (code : ℕ) → all_are (sound_parameter setting) (attribute_parameters_from code table) ≡ true
unfolding whole
attribute_parameters_sound [] code = refl
attribute_parameters_sound (v ∷ table) code = attribute_parameters_sound table (suc code)

pub parameters_in_turn : (ps qs : List (List ℕ)) (h : Host) → with_parameters (ps ++ qs) h ≡ with_parameters qs (with_parameters ps h)
unfolding with_parameters
parameters_in_turn [] qs h = refl
parameters_in_turn (p ∷ ps) qs h = parameters_in_turn ps qs (with_parameter p h)
