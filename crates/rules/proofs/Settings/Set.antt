-- The section of the termination set: its bytes are those of the codes in it, and the bytes of a set of codes hold those.
use mathlib.Core.Path.{◌≡◌, refl, sym, ap, ap₂, fun_ext, ◌∙◌}
use Prim.Native.Nat.{ℕ, zero, suc, ◌+◌, ◌-◌, ◌*◌, ◌/◌, ◌%◌, ◌^◌, ◌≤◌, ◌<◌}
use native.Mathlib.Nat.{zero-div}
use native.Mathlib.Omega.{arith}
use mathlib.Core.Bool.{Bool, true, false, not, ◌&&◌, and-true, and-false, true≢false, false≢true}
use mathlib.Core.List.{List, [], ◌∷◌}
use lib.Dec.{leb, ltb, eqb}
use lib.ListN.{length, drop, length-drop, get_or-eq_default}
use borrow.Author.Tests.{not-true, leb-true, le-leb, ltb-true, ltb-false, lt-ltb, eqb-true, eqb-false, ne_eqb}
use Rattle.rules.specs.Choice.{is_on, is_empty, all_are}
use Rattle.rules.specs.Numbers.{code_count}
use Rattle.rules.specs.Messages.Layout.{byte_bits, byte_values, byte_at}
use Rattle.rules.specs.Messages.Codec.{set_size, all_bytes}
use Rattle.rules.specs.StartRead.{in_set}
use Rattle.rules.specs.Settings.{sound_set, bits_where, unless_trailing, set_where, SayableSet}
use Rattle.rules.proofs.Choice.{both, halves, pick_true, pick-false, pick_case, test_case, is_empty_nil, all_at}
use Rattle.rules.proofs.Bounds.Bytes.{bytes_drop}
use Rattle.rules.proofs.Settings.Parts.{Says}
use Rattle.rules.proofs.Settings.Bits.{is_set, bits_back, bits_under, bits_set, bit_found}

-- Where a code's bit stands: in the first byte, or in the others.
byte_set : (bytes : List ℕ) (code at c : ℕ) → c < byte_bits → code ≡ at * byte_bits + c → in_set bytes code ≡ is_set (byte_at bytes at) c
unfolding in_set
byte_set bytes code at c h e =
    let byte : code / byte_bits ≡ at = omega arith in
    let place : code % byte_bits ≡ c = omega arith in
    ap₂ (λ k b. is_set (byte_at bytes k) b) byte place

front_set : (bytes : List ℕ) (c : ℕ) → c < byte_bits → in_set bytes c ≡ is_set (byte_at bytes 0) c
front_set bytes c h = byte_set bytes c 0 c h (omega arith)

behind_first_lem : (bytes : List ℕ) (at : ℕ) → byte_at bytes (suc at) ≡ byte_at (drop 1 bytes) at
behind_first_lem [] at = refl
behind_first_lem (b ∷ bytes) at = refl

behind_set : (bytes : List ℕ) (c : ℕ) → in_set bytes (byte_bits + c) ≡ in_set (drop 1 bytes) c
unfolding in_set
behind_set bytes c =
    byte_set bytes (byte_bits + c) (suc (c / byte_bits)) (c % byte_bits) (omega arith) (omega arith) ∙
    ap (λ b. is_set b (c % byte_bits)) (behind_first_lem bytes (c / byte_bits))

-- no code behind the last byte
far_set : (bytes : List ℕ) (c : ℕ) → length bytes ≤ c / byte_bits → in_set bytes c ≡ false
unfolding in_set
far_set bytes c h =
    ap (λ b. is_set b (c % byte_bits)) (get_or-eq_default bytes 0 h) ∙ ap (λ n. is_on (n % 2)) (zero-div (2 ^ (c % byte_bits)))

-- No trailing zero byte.
abbrev pub Trimmed : List ℕ → Type 0
Trimmed bytes = is_empty bytes ≡ false → byte_at bytes (length bytes - 1) ≡ 0 → ⊥

-- a byte in front leaves the last one where it was
last_behind : (b c : ℕ) (bytes : List ℕ) → byte_at (b ∷ c ∷ bytes) (length (b ∷ c ∷ bytes) - 1) ≡ byte_at (c ∷ bytes) (length (c ∷ bytes) - 1)
last_behind b c bytes =
    let e : suc (suc (length bytes)) - 1 ≡ suc (suc (length bytes) - 1) = omega arith in
    ap (byte_at (b ∷ c ∷ bytes)) e

none_trimmed : Trimmed []
unfolding is_empty
none_trimmed some last = true≢false some

trimmed_rest : (bytes : List ℕ) → Trimmed bytes → Trimmed (drop 1 bytes)
unfolding is_empty
trimmed_rest [] t = none_trimmed
trimmed_rest (b ∷ []) t = none_trimmed
trimmed_rest (b ∷ c ∷ bytes) t = λ some last. t refl (last_behind b c bytes ∙ last)

-- so nothing is left out of what is taken apart and put together again
trimmed_back : (bytes : List ℕ) → Trimmed bytes → unless_trailing (byte_at bytes 0) (drop 1 bytes) ≡ bytes
unfolding unless_trailing is_empty
trimmed_back [] t = pick_true _ _ refl
trimmed_back (b ∷ []) t = pick-false _ _ (ap (λ e. e && true) (ne_eqb b 0 (t refl)))
trimmed_back (b ∷ c ∷ bytes) t = pick-false _ _ (and-false (eqb b 0))

-- The bytes of the codes in a set, byte by byte.
trimmed_said : (n : ℕ) (bytes : List ℕ) → length bytes ≤ n → all_bytes bytes ≡ true → Trimmed bytes → set_where n (in_set bytes) ≡ bytes
unfolding set_where all_bytes
trimmed_said zero [] h e t = refl
trimmed_said zero (b ∷ bytes) h e t = absurd (omega arith)
trimmed_said (suc n) bytes h e t =
    let l = length-drop 1 bytes in
    let under = ltb-true (byte_at bytes 0) byte_values (all_at _ bytes 0 e refl 0) in
    let first = bits_back byte_bits (byte_at bytes 0) (in_set bytes) under (front_set bytes) in
    let others = trimmed_said n (drop 1 bytes) (omega arith) (bytes_drop 1 bytes e) (trimmed_rest bytes t) in
    ap₂ unless_trailing first (ap (set_where n) (fun_ext (behind_set bytes)) ∙ others) ∙ trimmed_back bytes t

-- What is written of a test of codes.
module _ (b : ℕ) (bytes : List ℕ) where
  first_kept : byte_at (unless_trailing b bytes) 0 ≡ b
  unfolding unless_trailing
  first_kept =
      pick_case (λ bs. byte_at bs 0 ≡ b) (eqb b 0 && is_empty bytes)
      (λ none. sym (eqb-true b 0 (halves (eqb b 0) (is_empty bytes) none).0)) (λ some. refl)

  others_kept : drop 1 (unless_trailing b bytes) ≡ bytes
  unfolding unless_trailing
  others_kept =
      pick_case (λ bs. drop 1 bs ≡ bytes) (eqb b 0 && is_empty bytes)
      (λ none. sym (is_empty_nil bytes (halves (eqb b 0) (is_empty bytes) none).1)) (λ some. refl)

-- it holds those codes: the first byte's by its bits, the others' by the rest
set_said : (n : ℕ) (test : ℕ → Bool) → ((c : ℕ) → test c ≡ true → c < n * byte_bits) → (c : ℕ) → in_set (set_where n test) c ≡ test c
unfolding set_where
set_said zero test under c = test_case (in_set [] c ≡ test c) (test c) (λ yes. let h = under c yes in absurd (omega arith)) (λ no. far_set [] c (omega arith) ∙ sym no)
set_said (suc n) test under c =
    let first = bits_where byte_bits test in
    let others = set_where n (λ c. test (byte_bits + c)) in
    let bytes = unless_trailing first others in
    test_case (in_set bytes c ≡ test c) (ltb c byte_bits)
    (λ yes.
    let h = ltb-true c byte_bits yes in
    front_set bytes c h ∙ ap (λ b. is_set b c) (first_kept first others) ∙ bits_set byte_bits test c h)
    (λ no.
    let h = ltb-false c byte_bits no in
    let e : byte_bits + (c - byte_bits) ≡ c = omega arith in
    let later = set_said n (λ c. test (byte_bits + c)) (λ c t. let u = under (byte_bits + c) t in omega arith) (c - byte_bits) in
    ap (in_set bytes) (sym e) ∙
    behind_set bytes (c - byte_bits) ∙
    ap (λ bs. in_set bs (c - byte_bits)) (others_kept first others) ∙
    later ∙
    ap test e)

set_length_lem : (n : ℕ) (test : ℕ → Bool) → length (set_where n test) ≤ n
unfolding set_where unless_trailing
set_length_lem zero test = omega arith
set_length_lem (suc n) test =
    let later = set_length_lem n (λ c. test (byte_bits + c)) in
    pick_case (λ (bs : List ℕ). length bs ≤ suc n) _ (λ none. omega arith) (λ some. omega arith)

set_bytes_lem : (n : ℕ) (test : ℕ → Bool) → all_bytes (set_where n test) ≡ true
unfolding set_where unless_trailing all_bytes all_are
set_bytes_lem zero test = refl
set_bytes_lem (suc n) test =
    let first = lt-ltb (bits_where byte_bits test) byte_values (bits_under byte_bits test) in
    pick_case (λ bs. all_bytes bs ≡ true) _ (λ none. refl) (λ some. both first (set_bytes_lem n (λ c. test (byte_bits + c))))

-- and has no trailing zero byte
trimmed_more : (b : ℕ) (bytes : List ℕ) → eqb b 0 && is_empty bytes ≡ false → Trimmed bytes → Trimmed (b ∷ bytes)
unfolding is_empty
trimmed_more b [] e t some last = eqb-false b 0 (sym (and-true (eqb b 0)) ∙ e) last
trimmed_more b (c ∷ bytes) e t some last = t refl (sym (last_behind b c bytes) ∙ last)

set_trimmed : (n : ℕ) (test : ℕ → Bool) → Trimmed (set_where n test)
unfolding set_where unless_trailing is_empty
set_trimmed zero test = none_trimmed
set_trimmed (suc n) test =
    let others = set_where n (λ c. test (byte_bits + c)) in
    let later = set_trimmed n (λ c. test (byte_bits + c)) in
    pick_case Trimmed _ (λ none. none_trimmed) (λ some. trimmed_more (bits_where byte_bits test) others some later)

-- The section.
set_parts : (bytes : List ℕ) → sound_set bytes ≡ true → is_empty bytes ≡ false → (length bytes ≤ set_size) × Trimmed bytes
unfolding sound_set
set_parts bytes sound filled =
    let last = eqb (byte_at bytes (length bytes - 1)) 0 in
    let t = halves (leb (length bytes) set_size) (not last) (rw filled at sound) in
    (leb-true (length bytes) set_size t.0, λ f. eqb-false (byte_at bytes (length bytes - 1)) 0 (not-true last t.1))

pub set_size_lem : (bytes : List ℕ) → sound_set bytes ≡ true → length bytes ≤ set_size
unfolding is_empty
set_size_lem [] e = omega arith
set_size_lem (b ∷ bytes) e = (set_parts (b ∷ bytes) e refl).0

pub set_back : (bytes : List ℕ) → all_bytes bytes ≡ true → sound_set bytes ≡ true → is_empty bytes ≡ false → set_where set_size (in_set bytes) ≡ bytes
set_back bytes e sound filled =
    let t = set_parts bytes sound filled in
    trimmed_said set_size bytes t.0 e t.1

-- no byte at all would hold no code
set_filled : (test : ℕ → Bool) → SayableSet test → is_empty (set_where set_size test) ≡ false
set_filled test s =
    let bytes = set_where set_size test in
    let c = s.member.0 in
    let said = set_said set_size test s.codes c ∙ s.member.1 in
    test_case (is_empty bytes ≡ false) (is_empty bytes)
    (λ empty. absurd (false≢true (sym (far_set [] c (omega arith)) ∙ ap (λ bs. in_set bs c) (sym (is_empty_nil bytes empty)) ∙ said)))
    (λ filled. filled)

pub set_says : (test : ℕ → Bool) → SayableSet test → Says sound_set in_set test (set_where set_size test)
unfolding sound_set
set_says test s =
    let bytes = set_where set_size test in
    let filled = set_filled test s in
    let size = set_length_lem set_size test in
    let last = ne_eqb (byte_at bytes (length bytes - 1)) 0 (set_trimmed set_size test filled) in
    record {
      filled = filled;
      short = omega arith;
      bytes = set_bytes_lem set_size test;
      passes = rw filled (both (le-leb (length bytes) set_size size) (ap not last));
      said = fun_ext (set_said set_size test s.codes);
    }

-- And set bytes hold no other sets.
pub set_sayable : (bytes : List ℕ) → all_bytes bytes ≡ true → sound_set bytes ≡ true → is_empty bytes ≡ false → SayableSet (in_set bytes)
unfolding all_bytes
set_sayable bytes e sound filled =
    let t = set_parts bytes sound filled in
    let last = length bytes - 1 in
    let under = ltb-true (byte_at bytes last) byte_values (all_at _ bytes 0 e refl last) in
    let found = bit_found byte_bits (byte_at bytes last) under (t.1 filled) in
    record {
      codes =
          λ c holds. test_case (c < code_count) (ltb c code_count) (ltb-true c code_count)
          (λ no. let h = ltb-false c code_count no in absurd (false≢true (sym (far_set bytes c (omega arith)) ∙ holds)));
      member = (last * byte_bits + found.0, byte_set bytes (last * byte_bits + found.0) last found.0 found.1 refl ∙ found.2);
    }
