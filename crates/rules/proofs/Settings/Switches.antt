-- The section of the switches: its bytes are those of what it says, and they set the switches as a Characteristics message would.
use mathlib.Core.Path.{◌≡◌, refl, sym, ap, ap₂, ◌∙◌}
use Prim.Native.Nat.{ℕ, zero, suc, ◌+◌, ◌≤◌}
use native.Mathlib.Omega.{arith}
use mathlib.Core.Bool.{Bool, true, false, ◌&&◌}
use mathlib.Core.List.{List, [], ◌∷◌, ◌++◌, append_assoc}
use lib.Dec.{ltb, eqb}
use lib.ListN.{length, drop, length-drop, take-append-drop, drop_of_length-le}
use lib.Seq.{drop-drop, drop-cons}
use borrow.Author.Tests.{ltb-true, lt-ltb, eqb-true}
use Rattle.rules.specs.Choice.{is_on, bit, is_empty, all_are, joined}
use Rattle.rules.specs.Messages.Layout.{fields_in, byte_values, word_bytes, number_at, bytes_of}
use Rattle.rules.specs.Messages.Parameters.{one_bit, raise_input, normal_echo, escape_recognition, auto_prompt}
use Rattle.rules.specs.Messages.Parameters.{setting, sound_parameter, cut}
use Rattle.rules.specs.Messages.Codec.{all_bytes}
use Rattle.rules.specs.State.{Switches, Host, with_switches}
use Rattle.rules.specs.Characteristics.{with_parameters}
use Rattle.rules.specs.Settings.{switch_size, switch_count, switch_at, switch_value, is_switch, sound_switches, switches_in}
use Rattle.rules.specs.Settings.{switch_parameter, switch_parameters, switch_bytes}
use Rattle.rules.specs.Whole.{whole}
use Rattle.rules.proofs.Choice.{both, halves, quarters}
use Rattle.rules.proofs.Parameters.{cut-joined}
use Rattle.rules.proofs.Bounds.Bytes.{bytes_drop, front_bytes}
use Rattle.rules.proofs.Settings.Parts.{Says}
use Rattle.rules.proofs.Settings.Bits.{bit_back, on_bit, bit_under}

-- One switch before others, and all four.
module _ (bytes : List ℕ) (e : all_bytes bytes ≡ true) where
  switch_back : (n selector : ℕ) (more : List ℕ) → switch_at n + switch_size ≤ length bytes → is_switch bytes n selector ≡ true →
      drop (switch_at n + switch_size) bytes ≡ more → drop (switch_at n) bytes ≡ switch_parameter selector (is_on (switch_value bytes n)) ++ more
  unfolding is_switch
  switch_back n selector more h s later =
      let t = halves (eqb (number_at word_bytes (switch_at n) bytes) selector) (ltb (switch_value bytes n) one_bit) s in
      let l = length-drop (switch_at n) bytes in
      let word = front_bytes word_bytes (drop (switch_at n) bytes) (bytes_drop (switch_at n) bytes e) (omega arith) in
      let number = eqb-true (number_at word_bytes (switch_at n) bytes) selector t.0 in
      let value = bit_back (switch_value bytes n) (ltb-true (switch_value bytes n) one_bit t.1) in
      let next : suc (switch_at n + word_bytes) ≡ switch_at n + switch_size = omega arith in
      let behind = drop-drop word_bytes (switch_at n) bytes ∙ drop-cons bytes (switch_at n + word_bytes) 0 (omega arith) in
      sym (take-append-drop word_bytes (drop (switch_at n) bytes)) ∙
      ap₂ ◌++◌ (sym word ∙ ap (bytes_of word_bytes) number) (behind ∙ ap₂ ◌∷◌ (sym value) (ap (λ k. drop k bytes) next ∙ later)) ∙
      sym (append_assoc (bytes_of word_bytes selector) (bit (is_on (switch_value bytes n)) ∷ []) more)

  pub switches_back : sound_switches bytes ≡ true → is_empty bytes ≡ false → switch_bytes (switches_in bytes) ≡ bytes
  unfolding sound_switches switch_bytes switch_parameters switches_in joined
  switches_back sound filled =
      let whole = eqb (length bytes) (switch_at switch_count) in
      let first = is_switch bytes 0 raise_input in
      let t = quarters (whole && first) (is_switch bytes 1 normal_echo) (is_switch bytes 2 escape_recognition) (is_switch bytes 3 auto_prompt) (rw filled at sound) in
      let f = halves whole first t.0 in
      let l = eqb-true (length bytes) (switch_at switch_count) f.0 in
      sym (switch_back 0 raise_input _ (omega arith) f.1
      (switch_back 1 normal_echo _ (omega arith) t.1
      (switch_back 2 escape_recognition _ (omega arith) t.2
      (switch_back 3 auto_prompt _ (omega arith) t.3
      (drop_of_length-le bytes {i = switch_at switch_count} (omega arith))))))

pub switches_size : (bytes : List ℕ) → all_bytes bytes ≡ true → sound_switches bytes ≡ true → length bytes ≤ switch_at switch_count
unfolding switch_bytes switch_parameters joined fields_in is_empty
switches_size [] e sound = omega arith
switches_size (b ∷ bytes) e sound = let back = ap length (switches_back (b ∷ bytes) e sound refl) in omega arith

-- What is written of the switches: it says them, is sound, and sets them.
switches_on : (s : Switches) →
    record {
      raising = is_on (bit s.raising);
      echoing = is_on (bit s.echoing);
      recognising = is_on (bit s.recognising);
      prompting = is_on (bit s.prompting);
    } ≡ s
switches_on s =
    λ i. record {
      raising = on_bit s.raising i;
      echoing = on_bit s.echoing i;
      recognising = on_bit s.recognising i;
      prompting = on_bit s.prompting i;
    }

pub switches_say : (s : Switches) → Says sound_switches switches_in s (switch_bytes s)
unfolding whole
switches_say s =
    let one : (b : Bool) → ltb (bit b) one_bit ≡ true = λ b. lt-ltb (bit b) one_bit (bit_under b) in
    let byte : (b : Bool) → ltb (bit b) byte_values ≡ true = λ b. lt-ltb (bit b) byte_values (omega (arith, bit_under b)) in
    record {
      filled = refl;
      short = omega arith;
      bytes = both (byte s.raising) (both (byte s.echoing) (both (byte s.recognising) (both (byte s.prompting) refl)));
      passes = both (both (both (one s.raising) (one s.echoing)) (one s.recognising)) (one s.prompting);
      said = switches_on s;
    }

-- each is a sound parameter
parameters_sound : (s : Switches) → all_are (sound_parameter setting) (switch_parameters s) ≡ true
unfolding whole
parameters_sound s = refl

parameters_set : (s : Switches) (h : Host) → with_parameters (switch_parameters s) h ≡ with_switches s h
unfolding whole
parameters_set s h = ap (λ on. with_switches on h) (switches_on s)

-- A section sets the switches that it says, as a Characteristics message with these bytes would.
pub switches_set : (bytes : List ℕ) → all_bytes bytes ≡ true → sound_switches bytes ≡ true → is_empty bytes ≡ false → (h : Host) →
    with_parameters (cut setting zero bytes) h ≡ with_switches (switches_in bytes) h
unfolding switch_bytes
switches_set bytes e sound filled h =
    let s = switches_in bytes in
    ap (λ b. with_parameters (cut setting zero b) h) (sym (switches_back bytes e sound filled)) ∙
    ap (λ ps. with_parameters ps h) (cut-joined setting (switch_parameters s) (parameters_sound s)) ∙
    parameters_set s h
