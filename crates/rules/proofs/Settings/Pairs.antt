-- The section of the attributes: its pairs are those of the table that it says, and a table's pairs say the table.
use mathlib.Core.Path.{◌≡◌, refl, sym, ap, ◌∙◌}
use Prim.Native.Nat.{ℕ, zero, suc, ◌+◌, ◌*◌, ◌≤◌, ◌<◌}
use native.Mathlib.Nat.{zero-add, eq-or-lt_of_le}
use native.Mathlib.Numerals.{add-one}
use native.Mathlib.Omega.{arith}
use mathlib.Core.Bool.{true, false, not, true≢false, false≢true}
use mathlib.Core.List.{List, [], ◌∷◌, ◌++◌, append_assoc, append-nil}
use mathlib.Core.Logic.{⊎_elim}
use lib.Dec.{leb, ltb, eqb}
use lib.ListN.{length, get_or, set, replicate, length-append, length-set, length-replicate}
use lib.Seq.{append_snoc, set_at}
use borrow.Author.Tests.{ltb-true, lt-ltb, leb-true, le-leb, eqb-true, eqb-false, eq-eqb, ne_eqb}
use Rattle.rules.specs.Choice.{within, is_empty, all_are}
use Rattle.rules.specs.Numbers.{code_count}
use Rattle.rules.specs.Messages.Layout.{byte_values}
use Rattle.rules.specs.Messages.Parameters.{seven_bits}
use Rattle.rules.specs.Messages.Codec.{all_bytes}
use Rattle.rules.specs.Characteristics.{whole_mask, is_deferred_clear}
use Rattle.rules.specs.Settings.{is_listed, sound_pairs, with_pairs, table_in, pairs_from, is_sayable, SayableTable}
use Rattle.rules.proofs.Choice.{both, halves, thirds, pick_true, pick-false, pick_case, pick_cases, within_bounds, within-true, all_cons, all_set}
use Rattle.rules.proofs.Settings.Parts.{Says}

-- The pairs of a table in two parts, and of one with one more value.
pairs_append : (code : ℕ) (front table : List ℕ) → pairs_from code (front ++ table) ≡ pairs_from code front ++ pairs_from (code + length front) table
unfolding pairs_from
pairs_append code [] table = let e : code ≡ code + 0 = omega arith in ap (λ c. pairs_from c table) e
pairs_append code (v ∷ front) table =
    let e : suc code + length front ≡ code + suc (length front) = omega arith in
    let later = pairs_append (suc code) front table ∙ ap (λ c. pairs_from (suc code) front ++ pairs_from c table) e in
    pick_cases (λ a b. a ≡ b ++ pairs_from (code + suc (length front)) table) (eqb v 0) (λ z. later) (λ n. ap (λ ps. code ∷ v ∷ ps) later)

module _ (front : List ℕ) (value : ℕ) where
  pairs_same : value ≡ 0 → pairs_from 0 (front ++ value ∷ []) ≡ pairs_from 0 front
  unfolding pairs_from
  pairs_same z =
      pairs_append 0 front (value ∷ []) ∙ ap (λ ps. pairs_from 0 front ++ ps) (pick_true _ _ (eq-eqb value 0 z)) ∙ append-nil (pairs_from 0 front)

  pairs_more : (value ≡ 0 → ⊥) → pairs_from 0 (front ++ value ∷ []) ≡ pairs_from 0 front ++ length front ∷ value ∷ []
  unfolding pairs_from
  pairs_more n =
      pairs_append 0 front (value ∷ []) ∙
      ap (λ ps. pairs_from 0 front ++ ps) (pick-false _ _ (ne_eqb value 0 n) ∙ ap (λ c. c ∷ value ∷ []) (zero-add (length front)))

-- The table that pairs say, from the first place on: those in front are filled, the others still 0.
abbrev Back : ℕ → List ℕ → List ℕ → Type 0
Back n front bytes = pairs_from 0 (with_pairs bytes (front ++ replicate n 0)) ≡ pairs_from 0 front ++ bytes

module _ (n : ℕ) (front bytes : List ℕ) where
  -- the next place stays 0
  skip_back : Back n (front ++ 0 ∷ []) bytes → Back (suc n) front bytes
  skip_back later =
      ap (λ t. pairs_from 0 (with_pairs bytes t)) (sym (append_snoc front 0 (replicate n 0))) ∙
      later ∙
      ap (λ ps. ps ++ bytes) (pairs_same front 0 refl)

  -- the next place is the first pair's
  pair_back : (value : ℕ) → (value ≡ 0 → ⊥) → Back n (front ++ value ∷ []) bytes → Back (suc n) front (length front ∷ value ∷ bytes)
  unfolding with_pairs
  pair_back value nonzero later =
      let placed = set_at front 0 (replicate n 0) value (length front) refl ∙ sym (append_snoc front value (replicate n 0)) in
      ap (λ t. pairs_from 0 (with_pairs bytes t)) placed ∙
      later ∙
      ap (λ ps. ps ++ bytes) (pairs_more front value nonzero) ∙
      append_assoc (pairs_from 0 front) (length front ∷ value ∷ []) bytes

-- the first pair, and the pairs behind it
record First (least code value : ℕ) (rest : List ℕ) : Type 0 where
  from : least ≤ code
  under : code < code_count
  listed : is_listed value ≡ true
  bytes : all_bytes rest ≡ true
  sound : sound_pairs (suc code) rest ≡ true

first_pair : (least code value : ℕ) (rest : List ℕ) → all_bytes (code ∷ value ∷ rest) ≡ true → sound_pairs least (code ∷ value ∷ rest) ≡ true →
    First least code value rest
unfolding sound_pairs all_bytes
first_pair least code value rest e s =
    let t = thirds (leb least code) (is_listed value) (sound_pairs (suc code) rest) s in
    let c = all_cons _ code (value ∷ rest) e in
    record {
      from = leb-true least code t.0;
      under = ltb-true code byte_values c.0;
      listed = t.1;
      bytes = (all_cons _ value rest c.1).1;
      sound = t.2;
    }

pair_sound : (least code value : ℕ) (rest : List ℕ) → least ≤ code → is_listed value ≡ true → sound_pairs (suc code) rest ≡ true →
    sound_pairs least (code ∷ value ∷ rest) ≡ true
unfolding sound_pairs
pair_sound least code value rest from listed sound = both (both (le-leb least code from) listed) sound

-- no listed value is 0
listed_nonzero : (value : ℕ) → is_listed value ≡ true → value ≡ 0 → ⊥
unfolding is_listed
listed_nonzero value e z =
    let h = within_bounds 1 whole_mask value (halves (within 1 whole_mask value) (not (is_deferred_clear value)) e).0 in
    omega arith

length_snoc : (front : List ℕ) (value : ℕ) → length (front ++ value ∷ []) ≡ suc (length front)
length_snoc front value = length-append front (value ∷ []) ∙ add-one (length front)

-- at each place the first pair is for it or for a later one
places_back : (n : ℕ) (front bytes : List ℕ) → length front + n ≡ code_count → all_bytes bytes ≡ true → sound_pairs (length front) bytes ≡ true →
    Back n front bytes
unfolding sound_pairs with_pairs
places_back zero front [] room e s = ap (pairs_from 0) (append-nil front) ∙ sym (append-nil (pairs_from 0 front))
places_back (suc n) front [] room e s =
    let l = length_snoc front 0 in
    skip_back n front [] (places_back n (front ++ 0 ∷ []) [] (omega arith) e refl)
places_back n front (code ∷ []) room e s = absurd (false≢true s)
places_back zero front (code ∷ value ∷ rest) room e s =
    let p = first_pair (length front) code value rest e s in
    absurd (omega arith)
places_back (suc n) front (code ∷ value ∷ rest) room e s =
    let p = first_pair (length front) code value rest e s in
    ⊎_elim
    (λ here.
    let l = length_snoc front value in
    let sound = ap (λ k. sound_pairs k rest) l ∙ ap (λ k. sound_pairs (suc k) rest) here ∙ p.sound in
    let later = places_back n (front ++ value ∷ []) rest (omega arith) p.bytes sound in
    rw (← here) (pair_back n front rest value (listed_nonzero value p.listed) later))
    (λ above.
    let l = length_snoc front 0 in
    let sound = ap (λ k. sound_pairs k (code ∷ value ∷ rest)) l ∙ pair_sound (suc (length front)) code value rest above p.listed p.sound in
    skip_back n front (code ∷ value ∷ rest) (places_back n (front ++ 0 ∷ []) (code ∷ value ∷ rest) (omega arith) e sound))
    (eq-or-lt_of_le p.from)

pub pairs_back : (bytes : List ℕ) → all_bytes bytes ≡ true → sound_pairs 0 bytes ≡ true → pairs_from 0 (table_in bytes) ≡ bytes
unfolding table_in pairs_from
pairs_back bytes e s = places_back code_count [] bytes refl e s

-- What holds of a table's pairs whether its first value is 0 or not.
pairs_case : (P : List ℕ → Type 0) (code value : ℕ) (table : List ℕ) → (value ≡ 0 → P (pairs_from (suc code) table)) →
    ((value ≡ 0 → ⊥) → P (code ∷ value ∷ pairs_from (suc code) table)) → P (pairs_from code (value ∷ table))
unfolding pairs_from
pairs_case P code value table f g = pick_case P (eqb value 0) (λ e. f (eqb-true value 0 e)) (λ e. g (eqb-false value 0 e))

-- The pairs of a table say it.
places_say : (table front : List ℕ) → with_pairs (pairs_from (length front) table) (front ++ replicate (length table) 0) ≡ front ++ table
unfolding with_pairs pairs_from
places_say [] front = refl
places_say (v ∷ table) front =
    let zeros : List ℕ = replicate (length table) 0 in
    let later = simp (length_snoc, append_snoc) at (places_say table (front ++ v ∷ [])) in
    pairs_case (λ ps. with_pairs ps (front ++ 0 ∷ zeros) ≡ front ++ v ∷ table) (length front) v table
    (λ zero. ap (λ z. with_pairs (pairs_from (suc (length front)) table) (front ++ z ∷ zeros)) (sym zero) ∙ later)
    (λ some. ap (with_pairs (pairs_from (suc (length front)) table)) (set_at front 0 zeros v (length front) refl) ∙ later)

-- from the first place on
pairs_said : (table : List ℕ) → length table ≡ code_count → table_in (pairs_from 0 table) ≡ table
unfolding table_in
pairs_said table size = ap (λ n. with_pairs (pairs_from 0 table) (replicate n 0)) (sym size) ∙ places_say table []

-- a pair takes two bytes
pairs_length : (table : List ℕ) (code : ℕ) → length (pairs_from code table) ≤ 2 * length table
unfolding pairs_from
pairs_length [] code = omega arith
pairs_length (v ∷ table) code =
    let later = pairs_length table (suc code) in
    pairs_case (λ ps. length ps ≤ 2 * suc (length table)) code v table (λ zero. omega arith) (λ some. omega arith)

-- There are some where a value is not 0.
pairs_some : (table : List ℕ) (code c : ℕ) → (get_or table c 0 ≡ 0 → ⊥) → is_empty (pairs_from code table) ≡ false
unfolding is_empty
pairs_some [] code c n = absurd (n refl)
pairs_some (v ∷ table) code zero n = pairs_case (λ ps. is_empty ps ≡ false) code v table (λ zero. absurd (n zero)) (λ some. refl)
pairs_some (v ∷ table) code (suc c) n = pairs_case (λ ps. is_empty ps ≡ false) code v table (λ zero. pairs_some table (suc code) c n) (λ some. refl)

-- They are sound where each value is one that a record can say.
sayable_parts : (value : ℕ) → is_sayable value ≡ true → (value < seven_bits) × (not (is_deferred_clear value) ≡ true)
unfolding is_sayable
sayable_parts value e =
    let t = halves (ltb value seven_bits) (not (is_deferred_clear value)) e in
    (ltb-true value seven_bits t.0, t.1)

sayable_listed : (value : ℕ) → is_sayable value ≡ true → (value ≡ 0 → ⊥) → is_listed value ≡ true
unfolding is_listed
sayable_listed value e nonzero =
    let t = sayable_parts value e in
    both (within-true 1 whole_mask value (omega arith) (omega arith)) t.1

pairs_sound : (table : List ℕ) (least code : ℕ) → least ≤ code → all_are is_sayable table ≡ true → sound_pairs least (pairs_from code table) ≡ true
unfolding sound_pairs pairs_from
pairs_sound [] least code h e = refl
pairs_sound (v ∷ table) least code h e =
    let t = all_cons is_sayable v table e in
    pairs_case (λ ps. sound_pairs least ps ≡ true) code v table
    (λ zero. pairs_sound table least (suc code) (omega arith) t.1)
    (λ some.
    let later = pairs_sound table (suc code) (suc code) (omega arith) t.1 in
    pair_sound least code v (pairs_from (suc code) table) h (sayable_listed v t.0 some) later)

-- and bytes, codes being as many as a byte has values
pairs_bytes : (table : List ℕ) (code : ℕ) → code + length table ≤ byte_values → all_are is_sayable table ≡ true → all_bytes (pairs_from code table) ≡ true
unfolding pairs_from all_bytes all_are
pairs_bytes [] code h e = refl
pairs_bytes (v ∷ table) code h e =
    let t = all_cons is_sayable v table e in
    let value = sayable_parts v t.0 in
    let later = pairs_bytes table (suc code) (omega arith) t.1 in
    pairs_case (λ ps. all_bytes ps ≡ true) code v table
    (λ zero. later)
    (λ some. both (lt-ltb code byte_values (omega arith)) (both (lt-ltb v byte_values (omega arith)) later))

pub pairs_say : (table : List ℕ) → SayableTable table → Says (sound_pairs 0) table_in table (pairs_from 0 table)
pairs_say table s =
    let size = s.size in
    let long = pairs_length table 0 in
    record {
      filled = pairs_some table 0 s.listed.0 s.listed.1;
      short = omega arith;
      bytes = pairs_bytes table 0 (omega arith) s.values;
      passes = pairs_sound table 0 0 (omega arith) s.values;
      said = pairs_said table size;
    }

-- And pairs say no other tables.
pairs_size : (bytes table : List ℕ) → length (with_pairs bytes table) ≡ length table
unfolding with_pairs
pairs_size [] table = refl
pairs_size (code ∷ []) table = refl
pairs_size (code ∷ value ∷ rest) table = pairs_size rest (set table code value) ∙ length-set table code value

listed_sayable : (value : ℕ) → is_listed value ≡ true → is_sayable value ≡ true
unfolding is_listed is_sayable
listed_sayable value e =
    let t = halves (within 1 whole_mask value) (not (is_deferred_clear value)) e in
    let h = within_bounds 1 whole_mask value t.0 in
    both (lt-ltb value seven_bits (omega arith)) t.1

pairs_values : (bytes table : List ℕ) (least : ℕ) → sound_pairs least bytes ≡ true → all_are is_sayable table ≡ true → all_are is_sayable (with_pairs bytes table) ≡ true
unfolding with_pairs sound_pairs
pairs_values [] table least s e = e
pairs_values (code ∷ []) table least s e = e
pairs_values (code ∷ value ∷ rest) table least s e =
    let t = thirds (leb least code) (is_listed value) (sound_pairs (suc code) rest) s in
    pairs_values rest (set table code value) (suc code) t.2 (all_set is_sayable table code value (listed_sayable value t.1) e)

zeros_sayable : (n : ℕ) → all_are is_sayable (replicate n 0) ≡ true
unfolding all_are is_sayable is_deferred_clear
zeros_sayable zero = refl
zeros_sayable (suc n) = zeros_sayable n

pairs_listed : (table : List ℕ) (code : ℕ) → is_empty (pairs_from code table) ≡ false → (c : ℕ) × (get_or table c 0 ≡ 0 → ⊥)
unfolding is_empty pairs_from
pairs_listed [] code = λ filled. absurd (true≢false filled)
pairs_listed (v ∷ table) code =
    pairs_case (λ ps. is_empty ps ≡ false → (c : ℕ) × (get_or (v ∷ table) c 0 ≡ 0 → ⊥)) code v table
    (λ zero filled. let later = pairs_listed table (suc code) filled in (suc later.0, later.1))
    (λ some filled. (0, some))

pub pairs_sayable : (bytes : List ℕ) → all_bytes bytes ≡ true → sound_pairs 0 bytes ≡ true → is_empty bytes ≡ false → SayableTable (table_in bytes)
unfolding table_in
pairs_sayable bytes e s filled =
    let zeros : List ℕ = replicate code_count 0 in
    record {
      size = pairs_size bytes zeros ∙ length-replicate code_count zero;
      values = pairs_values bytes zeros 0 s (zeros_sayable code_count);
      listed = pairs_listed (table_in bytes) 0 (ap is_empty (pairs_back bytes e s) ∙ filled);
    }
