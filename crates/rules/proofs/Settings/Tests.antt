-- The tests of a sound record, one by one.
use mathlib.Core.Path.{◌≡◌}
use Prim.Native.Nat.{ℕ}
use mathlib.Core.Bool.{true, ◌&&◌}
use mathlib.Core.List.{List}
use Rattle.rules.specs.Settings.{form_in, is_form, behind_form, characteristics_section, attributes_section, set_section, largest_read_section}
use Rattle.rules.specs.Settings.{section_count, are_whole, section_in, sound_switches, sound_pairs, sound_set, sound_largest_read, is_sound}
use Rattle.rules.proofs.Choice.{thirds, quarters}

pub record Sound (bytes : List ℕ) : Type 0 where
  pub form : is_form (form_in bytes) ≡ true
  pub whole : are_whole section_count (behind_form bytes) ≡ true
  pub switches : sound_switches (section_in characteristics_section bytes) ≡ true
  pub attributes : sound_pairs 0 (section_in attributes_section bytes) ≡ true
  pub set : sound_set (section_in set_section bytes) ≡ true
  pub largest_read : sound_largest_read (form_in bytes) (section_in largest_read_section bytes) ≡ true

pub sound_parts : (bytes : List ℕ) → is_sound bytes ≡ true → Sound bytes
unfolding is_sound
sound_parts bytes sound =
    let form = is_form (form_in bytes) in
    let whole = are_whole section_count (behind_form bytes) in
    let switches = sound_switches (section_in characteristics_section bytes) in
    let attributes = sound_pairs 0 (section_in attributes_section bytes) in
    let set = sound_set (section_in set_section bytes) in
    let largest_read = sound_largest_read (form_in bytes) (section_in largest_read_section bytes) in
    let t = thirds (form && whole && switches && attributes) set largest_read sound in
    let q = quarters form whole switches attributes t.0 in
    record {
      form = q.0;
      whole = q.1;
      switches = q.2;
      attributes = q.3;
      set = t.1;
      largest_read = t.2;
    }
