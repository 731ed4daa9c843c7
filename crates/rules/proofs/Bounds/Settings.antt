-- Loading within bounds: what a sound record holds has the sizes of what it sets.
use mathlib.Core.Path.{◌≡◌, refl}
use Prim.Native.Nat.{ℕ, ◌≤◌}
use native.Mathlib.Omega.{arith}
use mathlib.Core.Bool.{Bool, true, false, ◌&&◌}
use mathlib.Core.List.{List, []}
use lib.ListN.{length}
use Rattle.rules.specs.Choice.{within, is_empty, all_are}
use Rattle.rules.specs.Numbers.{code_count, input_size}
use Rattle.rules.specs.Messages.Layout.{number_of}
use Rattle.rules.specs.Messages.Codec.{set_size, all_bytes}
use Rattle.rules.specs.State.{Host, State}
use Rattle.rules.specs.Settings.{characteristics_section, attributes_section, set_section, largest_read_section, section_count, section_in}
use Rattle.rules.specs.Settings.{form_in, sound_pairs, sound_set, is_sound, table_in, largest_read_in, is_sayable, SayableTable}
use Rattle.rules.specs.Settings.{are_sound, found_section, found_or, loaded, loads}
use Rattle.rules.specs.Bounds.{is_attribute, BoundedHost, BoundedRead}
use Rattle.rules.proofs.Choice.{pick_case, halves, all_weaken}
use Rattle.rules.proofs.Numbers.{largest_read_room}
use Rattle.rules.proofs.Bounds.Bytes.{no_bytes}
use Rattle.rules.proofs.Bounds.Turns.{Steady, Fine, rehosted, changes_good}
use Rattle.rules.proofs.Settings.Tests.{sound_parts}
use Rattle.rules.proofs.Settings.Sections.{section_bytes}
use Rattle.rules.proofs.Settings.Pairs.{pairs_sayable}
use Rattle.rules.proofs.Settings.Set.{set_size_lem}
use Rattle.rules.proofs.Settings.LargestRead.{largest_read_sayable}

-- A section that is found is a sound record's, or empty.
module _ (own site : List ℕ) (P : List ℕ → Type 0) where
  found_case : (n : ℕ) → P [] → (is_sound own ≡ true → P (section_in n own)) → (is_sound site ≡ true → P (section_in n site)) → P (found_section n own site)
  unfolding found_section are_sound
  found_case n nothing ours theirs =
      pick_case P (within characteristics_section section_count n && (is_sound own && is_sound site))
      (λ y.
      let sound = halves (is_sound own) (is_sound site) (halves (within characteristics_section section_count n) (is_sound own && is_sound site) y).1 in
      pick_case P (is_empty (section_in n own)) (λ e. theirs sound.1) (λ f. ours sound.0))
      (λ f. nothing)

-- what is loaded is what a section says that is not empty, or what was there
found_or_lem : {A : Type 0} (P : A → Type 0) (says : List ℕ → A) (section : List ℕ) (otherwise : A) → (is_empty section ≡ false → P (says section)) → P otherwise →
    P (found_or says section otherwise)
unfolding found_or
found_or_lem P says section otherwise found kept = pick_case P (is_empty section) (λ e. kept) found

-- a test of one section holds of the one that is found
module _ (own site : List ℕ) (test : List ℕ → Bool) where
  found_tested : (n : ℕ) → test [] ≡ true → ((bytes : List ℕ) → is_sound bytes ≡ true → test (section_in n bytes) ≡ true) →
      test (found_section n own site) ≡ true
  found_tested n nothing each = found_case own site (λ bytes. test bytes ≡ true) n nothing (each own) (each site)

-- a set that is found fits
pub set_found : (own site : List ℕ) → length (found_section set_section own site) ≤ set_size
unfolding sound_set is_empty
set_found own site =
    set_size_lem (found_section set_section own site) (found_tested own site sound_set set_section refl (λ bytes e. (sound_parts bytes e).set))

-- attributes that a record can say have seven bits
sayable_attribute : (value : ℕ) → is_sayable value ≡ true → is_attribute value ≡ true
unfolding is_sayable is_attribute
sayable_attribute value e = (halves _ _ e).0

sound_largest_read_lem : (bytes : List ℕ) → is_sound bytes ≡ true → largest_read_in (section_in largest_read_section bytes) ≤ input_size
sound_largest_read_lem bytes e =
    let top = largest_read_sayable (form_in bytes) (section_in largest_read_section bytes) (sound_parts bytes e).largest_read in
    let room = largest_read_room (form_in bytes) in
    omega arith

module _ (own site : List ℕ) (ours : all_bytes own ≡ true) (theirs : all_bytes site ≡ true) where
  found_bytes : (n : ℕ) → all_bytes (found_section n own site) ≡ true
  found_bytes n = found_case own site (λ bytes. all_bytes bytes ≡ true) n no_bytes (λ e. section_bytes n own ours) (λ e. section_bytes n site theirs)

  table_sayable : is_empty (found_section attributes_section own site) ≡ false → SayableTable (table_in (found_section attributes_section own site))
  unfolding sound_pairs
  table_sayable =
      pairs_sayable _ (found_bytes attributes_section) (found_tested own site (sound_pairs 0) attributes_section refl (λ bytes e. (sound_parts bytes e).attributes))

  largest_read_within : largest_read_in (found_section largest_read_section own site) ≤ input_size
  unfolding number_of
  largest_read_within =
      found_case own site (λ section. largest_read_in section ≤ input_size) largest_read_section (omega arith) (sound_largest_read_lem own) (sound_largest_read_lem site)

  loaded_bounded : (h : Host) → BoundedHost h → BoundedHost (loaded own site h)
  unfolding loaded
  loaded_bounded h b =
      let attributes = found_section attributes_section own site in
      let set = found_section set_section own site in
      let largest_read = found_section largest_read_section own site in
      record {
        table = found_or_lem (λ table. length table ≡ code_count) table_in attributes h.attributes (λ filled. (table_sayable filled).size) b.table;
        attributes =
            found_or_lem (λ table. all_are is_attribute table ≡ true) table_in attributes h.attributes
            (λ filled. all_weaken is_sayable is_attribute sayable_attribute (table_in attributes) (table_sayable filled).values)
            b.attributes;
        set_length = found_or_lem (λ bytes. length bytes ≤ set_size) (λ bytes. bytes) set h.last_set (λ filled. set_found own site) b.set_length;
        set_bytes = found_or_lem (λ bytes. all_bytes bytes ≡ true) (λ bytes. bytes) set h.last_set (λ filled. found_bytes set_section) b.set_bytes;
        largest_read = found_or_lem (λ n. n ≤ input_size) largest_read_in largest_read h.largest_read (λ filled. largest_read_within) b.largest_read;
      }

  pub loads_fine : {s : State ℕ} → Steady BoundedRead s → Fine (loads own site s)
  unfolding loads
  loads_fine {s = s} h = changes_good _ (rehosted h (loaded_bounded s.host h.host))
