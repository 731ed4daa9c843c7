-- The settings record: in each form one meaning has at most one record, and every meaning that the form can say has one. A sound record is what
-- is written of its meaning, and what is written of a meaning is a sound record that has it.
pub mod Tests
pub mod Parts
pub mod Bits
pub mod Sections
pub mod Switches
pub mod Pairs
pub mod Attributes
pub mod Set
pub mod LargestRead
pub mod Moving
use mathlib.Core.Path.{◌≡◌, refl, sym, ap, ap₂, subst⁻¹, ◌∙◌}
use Prim.Native.Nat.{ℕ, ◌≤◌, ◌<◌}
use native.Mathlib.Omega.{arith}
use mathlib.Core.Bool.{true, false≢true}
use mathlib.Core.List.{List, [], ◌∷◌, map}
use lib.Dec.{eqb}
use borrow.Author.Tests.{eqb-true}
use Rattle.rules.specs.Choice.{is_empty, all_are, joined}
use Rattle.rules.specs.Messages.Codec.{set_size, all_bytes}
use Rattle.rules.specs.StartRead.{in_set}
use Rattle.rules.specs.Messages.Layout.{byte_values, bytes_of, framed}
use Rattle.rules.specs.Settings.{form_in, form1, form2, is_form, behind_form, characteristics_section, attributes_section, set_section, largest_read_section}
use Rattle.rules.specs.Settings.{section_count, section_behind, section_in, sound_switches, sound_pairs, sound_set, largest_read_bytes, sound_largest_read, top_largest_read, is_sound}
use Rattle.rules.specs.Settings.{switches_in, table_in, largest_read_in, Meaning, meaning_of, SayableTable, SayableSet, Sayable, IsRecordOf, OneRecord, EveryMeaning}
use Rattle.rules.specs.Settings.{switch_bytes, pairs_from, set_where, or_empty, sections_of, record_of}
use Rattle.rules.specs.Settings.Moving.{moved_sections, moved}
use Rattle.rules.proofs.Choice.{both, or_case}
use Rattle.rules.proofs.Bounds.Bytes.{one_byte, bytes_append, bytes_drop}
use Rattle.rules.proofs.Settings.Tests.{Sound, sound_parts}
use Rattle.rules.proofs.Settings.Parts.{MaySay, part_back, part_said, part_holds}
use Rattle.rules.proofs.Settings.Sections.{section_bytes, sections_bytes, sections_in, sections_written, section_read, sections_whole}
use Rattle.rules.proofs.Settings.Switches.{switches_back, switches_say}
use Rattle.rules.proofs.Settings.Pairs.{pairs_back, pairs_say, pairs_sayable}
use Rattle.rules.proofs.Settings.Set.{set_back, set_says, set_sayable}
use Rattle.rules.proofs.Settings.LargestRead.{largest_read_written, largest_read_own, largest_read_says, largest_read_sayable}

form_back : (bytes : List ℕ) → is_form (form_in bytes) ≡ true → form_in bytes ∷ behind_form bytes ≡ bytes
unfolding is_form
form_back [] e = absurd (false≢true e)
form_back (b ∷ bytes) e = refl

form_byte : (form : ℕ) → is_form form ≡ true → form < byte_values
unfolding is_form
form_byte form e =
    or_case (form < byte_values) (eqb form form1) (eqb form form2) (λ t. let is = eqb-true form form1 t in omega arith)
    (λ t. let is = eqb-true form form2 t in omega arith)
    e

-- What is written of a sound record's meaning, in any form: its sections, but for how the largest read is held.
module _ (bytes : List ℕ) (are_bytes : all_bytes bytes ≡ true) (s : is_sound bytes ≡ true) where
  sound : Sound bytes
  sound = sound_parts bytes s

  sections_said : (form : ℕ) → sections_of form (meaning_of bytes) ≡ moved_sections form bytes
  unfolding meaning_of sections_of moved_sections
  sections_said form =
      let switches = switches_back _ (section_bytes characteristics_section bytes are_bytes) sound.switches in
      let attributes = pairs_back _ (section_bytes attributes_section bytes are_bytes) sound.attributes in
      let set = set_back _ (section_bytes set_section bytes are_bytes) sound.set in
      λ i.
      part_back switches_in switch_bytes _ switches i ∷
      part_back table_in (pairs_from 0) _ (λ filled. attributes) i ∷
      part_back in_set (set_where set_size) _ set i ∷
      largest_read_written form (section_in largest_read_section bytes) i ∷
      []

  pub moved_written : (form : ℕ) → record_of form (meaning_of bytes) ≡ moved form bytes
  unfolding record_of moved
  moved_written form = ap (λ ss. form ∷ joined (map framed ss)) (sections_said form)

  -- and in its own form it is the record
  own_sections : moved_sections (form_in bytes) bytes ≡ sections_in section_count (behind_form bytes)
  unfolding moved_sections sections_in section_in section_behind
  own_sections =
      let largest_read = largest_read_own (form_in bytes) _ (section_bytes largest_read_section bytes are_bytes) sound.largest_read in
      λ i. section_in characteristics_section bytes ∷ section_in attributes_section bytes ∷ section_in set_section bytes ∷ largest_read i ∷ []

  pub record_back : record_of (form_in bytes) (meaning_of bytes) ≡ bytes
  unfolding moved
  record_back =
      moved_written (form_in bytes) ∙
      ap (λ ss. form_in bytes ∷ joined (map framed ss)) own_sections ∙
      ap (λ rest. form_in bytes ∷ rest) (sections_written section_count (behind_form bytes) (bytes_drop 1 bytes are_bytes) sound.whole) ∙
      form_back bytes sound.form

pub one_record : OneRecord
one_record a b ea eb sa sb form same = sym (record_back a ea sa) ∙ ap₂ record_of form same ∙ record_back b eb sb

-- What is written of a meaning is a sound record that has it.
module _ (form : ℕ) (m : Meaning) (known : is_form form ≡ true) (s : Sayable form m) where
  switches_part : MaySay sound_switches switches_in m.switches (or_empty switch_bytes m.switches)
  unfolding sound_switches is_empty
  switches_part = part_said switches_in switch_bytes sound_switches m.switches refl (λ part e. switches_say part)

  attributes_part : MaySay (sound_pairs 0) table_in m.attributes (or_empty (pairs_from 0) m.attributes)
  unfolding sound_pairs
  attributes_part = part_said table_in (pairs_from 0) (sound_pairs 0) m.attributes refl (λ part e. pairs_say part (s.attributes part e))

  set_part : MaySay sound_set in_set m.set (or_empty (set_where set_size) m.set)
  unfolding sound_set is_empty
  set_part = part_said in_set (set_where set_size) sound_set m.set refl (λ part e. set_says part (s.set part e))

  largest_read_part : MaySay (sound_largest_read form) largest_read_in m.largest_read (or_empty (bytes_of (largest_read_bytes form)) m.largest_read)
  unfolding sound_largest_read is_empty
  largest_read_part =
      part_said largest_read_in (bytes_of (largest_read_bytes form)) (sound_largest_read form) m.largest_read refl
      (λ part e. largest_read_says form part (s.largest_read part e))

  record_said : IsRecordOf form m (record_of form m)
  unfolding record_of sections_of section_in is_sound meaning_of all_are
  record_said =
      let first = switches_part in
      let second = attributes_part in
      let third = set_part in
      let fourth = largest_read_part in
      let short = both first.short (both second.short (both third.short (both fourth.short refl))) in
      let bytes = both first.bytes (both second.bytes (both third.bytes (both fourth.bytes refl))) in
      let rest = joined (map framed (sections_of form m)) in
      let switches = subst⁻¹ (MaySay sound_switches switches_in m.switches) (section_read 0 (sections_of form m) short (omega arith)) first in
      let attributes = subst⁻¹ (MaySay (sound_pairs 0) table_in m.attributes) (section_read 1 (sections_of form m) short (omega arith)) second in
      let set = subst⁻¹ (MaySay sound_set in_set m.set) (section_read 2 (sections_of form m) short (omega arith)) third in
      let largest_read = subst⁻¹ (MaySay (sound_largest_read form) largest_read_in m.largest_read) (section_read 3 (sections_of form m) short (omega arith)) fourth in
      let whole = sections_whole (sections_of form m) short in
      record {
        are_bytes = bytes_append (form ∷ []) rest (one_byte form (form_byte form known)) (sections_bytes (sections_of form m) bytes);
        sound = both (both (both (both (both known whole) switches.passes) attributes.passes) set.passes) largest_read.passes;
        in_form = refl;
        means = λ i. record { switches = switches.said i; attributes = attributes.said i; set = set.said i; largest_read = largest_read.said i };
      }

pub every_meaning : EveryMeaning
every_meaning = record_said

-- And a sound record has no other meaning.
pub says_sayable : (bytes : List ℕ) → all_bytes bytes ≡ true → is_sound bytes ≡ true → Sayable (form_in bytes) (meaning_of bytes)
unfolding meaning_of
says_sayable bytes e s =
    let sound = sound_parts bytes s in
    record {
      attributes = part_holds table_in SayableTable _ (pairs_sayable _ (section_bytes attributes_section bytes e) sound.attributes);
      set = part_holds in_set SayableSet _ (set_sayable _ (section_bytes set_section bytes e) sound.set);
      largest_read = part_holds largest_read_in (λ n. n ≤ top_largest_read (form_in bytes)) _ (λ filled. largest_read_sayable (form_in bytes) _ sound.largest_read);
    }
