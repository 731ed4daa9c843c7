-- Moving a record to the other form: it keeps the meaning, goes back to the same bytes, and is refused with 8 exactly where the largest read is over
-- what the form holds; and what is moved fits the area.
use mathlib.Core.Path.{◌≡◌, refl, sym, ap, ap₂, subst, ◌∙◌}
use Prim.Native.Nat.{ℕ, suc, ◌+◌, ◌-◌, ◌*◌, ◌≤◌, ◌<◌}
use native.Mathlib.Omega.{arith}
use mathlib.Core.Bool.{Bool, true, false, not, false≢true}
use mathlib.Core.List.{List, [], ◌∷◌, ◌++◌, map}
use mathlib.Core.Option.{some}
use lib.Dec.{leb, ltb, eqb}
use lib.ListN.{length, length-append}
use borrow.Author.Tests.{leb-true, ltb-true, ltb-false, lt-ltb, le-ltb, eqb-true, eq-eqb, not-false}
use Rattle.rules.specs.Choice.{pick, first_row_answer, is_empty, joined}
use Rattle.rules.specs.Numbers.{code_count, moving_area, accepted, small_area, unsound_record, too_large}
use Rattle.rules.specs.Messages.Layout.{word_bytes, byte_values, number_of, framed}
use Rattle.rules.specs.Messages.Codec.{refused, sound, all_bytes}
use Rattle.rules.specs.Settings.{form_in, form1, form2, is_form, characteristics_section, attributes_section, set_section, largest_read_section, section_count, section_in, top_largest_read, largest_read_in, is_sound}
use Rattle.rules.specs.Settings.{sound_pairs, is_listed, meaning_of, unless_empty, record_of, SayableRead, Sayable, IsRecordOf}
use Rattle.rules.specs.Settings.Moving.{other_form, is_movable, largest_read_of, largest_read_as, moved_sections, moved, move_refusals, move}
use Rattle.rules.specs.Settings.Moving.{KeepsMeaning, MovesBack, SayableMoves, Form1Moves, IsTooLarge, TooLargeExactly, NeverTooLarge}
use Rattle.rules.proofs.Choice.{both, halves, thirds, all_cons, or_case, pick_true, pick-false, pick_first, pick_second}
use Rattle.rules.proofs.Numbers.{moving_room, wider_form}
use Rattle.rules.proofs.Bounds.Sent.{framed-length}
use Rattle.rules.proofs.Outcomes.{refused-sound, refused_same, other_refusal, sound_same}
use Rattle.rules.proofs.Settings.Tests.{sound_parts}
use Rattle.rules.proofs.Settings.Parts.{part_holds, says_some}
use Rattle.rules.proofs.Settings.LargestRead.{largest_read_sayable, as_size}
use Rattle.rules.proofs.Settings.Sections.{section_bytes}
use Rattle.rules.proofs.Settings.Switches.{switches_size}
use Rattle.rules.proofs.Settings.Set.{set_size_lem}
use Rattle.rules.proofs.Settings.{moved_written, record_back, every_meaning, says_sayable}

-- What is moved to a form: a sound record of the other.
module _ (form : ℕ) (bytes : List ℕ) where
  pub movable_parts : is_movable form bytes ≡ true → (is_sound bytes ≡ true) × (form_in bytes ≡ other_form form)
  unfolding is_movable
  movable_parts e =
      let t = halves (is_sound bytes) (eqb (form_in bytes) (other_form form)) e in
      (t.0, eqb-true (form_in bytes) (other_form form) t.1)

  is_movable_lem : is_sound bytes ≡ true → form_in bytes ≡ other_form form → is_movable form bytes ≡ true
  unfolding is_movable
  is_movable_lem s f = both s (eq-eqb (form_in bytes) (other_form form) f)

-- The rows, in their order.
module _ (form area : ℕ) (bytes : List ℕ) where
  pub in_small : area < moving_area → move form area bytes ≡ refused small_area
  unfolding move move_refusals first_row_answer
  in_small h = pick_true _ _ (lt-ltb area moving_area h)

  module _ (room : moving_area ≤ area) where
    pub not_movable : is_movable form bytes ≡ false → move form area bytes ≡ refused unsound_record
    unfolding move move_refusals first_row_answer
    not_movable e = pick-false _ _ (le-ltb area moving_area room) ∙ pick_true _ _ (ap not e)

    module _ (e : is_movable form bytes ≡ true) where
      pub over_top : top_largest_read form < largest_read_of bytes → move form area bytes ≡ refused too_large
      unfolding move move_refusals first_row_answer
      over_top h =
          pick-false _ _ (le-ltb area moving_area room) ∙ pick-false _ _ (ap not e) ∙ pick_true _ _ (lt-ltb (top_largest_read form) (largest_read_of bytes) h)

      pub move-sound : largest_read_of bytes ≤ top_largest_read form → move form area bytes ≡ sound (moved form bytes)
      unfolding move move_refusals first_row_answer
      move-sound h =
          pick-false _ _ (le-ltb area moving_area room) ∙ pick-false _ _ (ap not e) ∙ pick-false _ _ (le-ltb (top_largest_read form) (largest_read_of bytes) h)

  -- and what has passed them
  record Moves (after : List ℕ) : Type 0 where
    sound : is_sound bytes ≡ true
    in_form : form_in bytes ≡ other_form form
    holds : largest_read_of bytes ≤ top_largest_read form
    written : moved form bytes ≡ after

  moves : (after : List ℕ) → move form area bytes ≡ sound after → Moves after
  unfolding move move_refusals first_row_answer
  moves after e =
      let small = pick_second _ refused-sound e in
      let unsound = pick_second _ refused-sound small.1 in
      let large = pick_second _ refused-sound unsound.1 in
      let parts = movable_parts form bytes (not-false _ unsound.0) in
      record {
        sound = parts.0;
        in_form = parts.1;
        holds = ltb-false (top_largest_read form) (largest_read_of bytes) large.0;
        written = sound_same large.1;
      }

-- The form that holds its largest read can say what a sound record says.
module _ (form : ℕ) (bytes : List ℕ) (are_bytes : all_bytes bytes ≡ true) (s : is_sound bytes ≡ true) where
  holds_sayable : largest_read_of bytes ≤ top_largest_read form → Sayable form (meaning_of bytes)
  unfolding meaning_of
  holds_sayable h =
      let said = says_sayable bytes are_bytes s in
      record {
        attributes = said.attributes;
        set = said.set;
        largest_read = part_holds largest_read_in (λ n. n ≤ top_largest_read form) (section_in largest_read_section bytes) (λ filled. h);
      }

  moved_means : is_form form ≡ true → largest_read_of bytes ≤ top_largest_read form → IsRecordOf form (meaning_of bytes) (moved form bytes)
  moved_means known h =
      subst (IsRecordOf form (meaning_of bytes)) (moved_written bytes are_bytes s form) (every_meaning form (meaning_of bytes) known (holds_sayable h))

pub keeps_meaning : KeepsMeaning
keeps_meaning form area bytes after known are_bytes e =
    let m = moves form area bytes after e in
    subst (IsRecordOf form (meaning_of bytes)) m.written (moved_means form bytes are_bytes m.sound known m.holds)

-- Back again.
other_back : (form : ℕ) → is_form form ≡ true → other_form (other_form form) ≡ form
unfolding is_form other_form pick
other_back form e =
    or_case (other_form (other_form form) ≡ form) (eqb form form1) (eqb form form2)
    (λ t. subst (λ f. other_form (other_form f) ≡ f) (sym (eqb-true form form1 t)) refl)
    (λ t. subst (λ f. other_form (other_form f) ≡ f) (sym (eqb-true form form2 t)) refl)
    e

-- A largest read is what the meaning says of it, or 0.
read_under : (top : ℕ) (section : List ℕ) → ((n : ℕ) → unless_empty largest_read_in section ≡ some n → n ≤ top) → largest_read_in section ≤ top
unfolding unless_empty number_of
read_under top [] h = omega arith
read_under top (b ∷ section) h = h (largest_read_in (b ∷ section)) refl

sayable_under : (form : ℕ) (bytes : List ℕ) → SayableRead form (meaning_of bytes) → largest_read_of bytes ≤ top_largest_read form
unfolding meaning_of
sayable_under form bytes h = read_under (top_largest_read form) (section_in largest_read_section bytes) h

pub sayable_moves : SayableMoves
sayable_moves form area bytes room s f h = move-sound form area bytes room (is_movable_lem form bytes s f) (sayable_under form bytes h)

pub moves_back : MovesBack
moves_back form area area' bytes after known are_bytes room e =
    let m = moves form area bytes after e in
    let r = keeps_meaning form area bytes after known are_bytes e in
    let said = says_sayable bytes are_bytes m.sound in
    let sayable : SayableRead (other_form form) (meaning_of after) = λ n is. rw m.in_form at (said.largest_read n (ap (λ k. k.largest_read) (sym r.means) ∙ is)) in
    sayable_moves (other_form form) area' after room r.sound (r.in_form ∙ sym (other_back form known)) sayable ∙
    ap sound
    (sym (moved_written after r.are_bytes r.sound (other_form form)) ∙ ap₂ record_of (sym m.in_form) r.means ∙ record_back bytes are_bytes m.sound)

-- Form 2 holds what form 1 does.
form1_held : (bytes : List ℕ) → is_sound bytes ≡ true → form_in bytes ≡ form1 → largest_read_of bytes ≤ top_largest_read form2
form1_held bytes s f =
    let own = largest_read_sayable (form_in bytes) (section_in largest_read_section bytes) (sound_parts bytes s).largest_read in
    let top : top_largest_read (form_in bytes) ≡ top_largest_read form1 = ap top_largest_read f in
    omega (arith, wider_form)

pub form1_moves : Form1Moves
unfolding other_form pick
form1_moves area bytes room s f = move-sound form2 area bytes room (is_movable_lem form2 bytes s f) (form1_held bytes s f)

-- 8 is given where it applies, and nowhere else.
read_filled : {least : ℕ} (section : List ℕ) → least < largest_read_in section → is_empty section ≡ false
unfolding is_empty number_of
read_filled [] h = absurd (omega arith)
read_filled (b ∷ section) h = refl

module _ (form area : ℕ) (bytes : List ℕ) where
  record Over : Type 0 where
    room : moving_area ≤ area
    sound : is_sound bytes ≡ true
    in_form : form_in bytes ≡ other_form form
    over : top_largest_read form < largest_read_of bytes

  over_form : move form area bytes ≡ refused too_large → Over
  unfolding move move_refusals first_row_answer
  over_form e =
      let not_small : small_area ≡ too_large → ⊥ = λ q. omega arith in
      let not_unsound : unsound_record ≡ too_large → ⊥ = λ q. omega arith in
      let small = pick_second _ (other_refusal not_small) e in
      let unsound = pick_second _ (other_refusal not_unsound) small.1 in
      let large = pick_first _ (λ q. refused-sound (sym q)) unsound.1 in
      let parts = movable_parts form bytes (not-false _ unsound.0) in
      record {
        room = ltb-false area moving_area small.0;
        sound = parts.0;
        in_form = parts.1;
        over = ltb-true (top_largest_read form) (largest_read_of bytes) large.0;
      }

module _ (area : ℕ) (bytes : List ℕ) where
  too_large_lem : move form1 area bytes ≡ refused too_large → IsTooLarge area bytes
  unfolding other_form pick meaning_of
  too_large_lem e =
      let o = over_form form1 area bytes e in
      let section = section_in largest_read_section bytes in
      record {
        room = o.room;
        sound = o.sound;
        in_form = o.in_form;
        most = largest_read_of bytes;
        largest_read = says_some largest_read_in section (read_filled section o.over);
        over = o.over;
      }

  refused_large : IsTooLarge area bytes → move form1 area bytes ≡ refused too_large
  unfolding other_form pick meaning_of
  refused_large t =
      let section = section_in largest_read_section bytes in
      let most = part_holds largest_read_in (λ n. n ≡ largest_read_in section) section (λ filled. refl) t.most t.largest_read in
      over_top form1 area bytes t.room (is_movable_lem form1 bytes t.sound t.in_form) (subst (λ n. top_largest_read form1 < n) most t.over)

pub too_large_exactly : TooLargeExactly
too_large_exactly area bytes = (too_large_lem area bytes, refused_large area bytes)

pub never_too_large : NeverTooLarge
unfolding other_form pick
never_too_large area bytes e =
    let o = over_form form2 area bytes e in
    omega (arith, o.over, form1_held bytes o.sound o.in_form)

-- A refusal has a number other than 0.
refused_rows : (a b c : Bool) (x : List ℕ) {n : ℕ} →
    pick a (refused small_area) (pick b (refused unsound_record) (pick c (refused too_large) (sound x))) ≡ refused n → n ≡ accepted → ⊥
unfolding pick
refused_rows true b c x e z = let same = refused_same e in omega arith
refused_rows false true c x e z = let same = refused_same e in omega arith
refused_rows false false true x e z = let same = refused_same e in omega arith
refused_rows false false false x e z = refused-sound (sym e)

pub refused_number : (form area : ℕ) (bytes : List ℕ) {n : ℕ} → move form area bytes ≡ refused n → n ≡ accepted → ⊥
unfolding move move_refusals first_row_answer
refused_number form area bytes e =
    refused_rows (ltb area moving_area) (not (is_movable form bytes)) (ltb (top_largest_read form) (largest_read_of bytes)) (moved form bytes) e

-- What is moved fits: every section has its longest.
pairs_short : (least : ℕ) (bytes : List ℕ) → all_bytes bytes ≡ true → sound_pairs least bytes ≡ true → length bytes ≤ 2 * (code_count - least)
unfolding sound_pairs all_bytes
pairs_short least [] are_bytes s = omega arith
pairs_short least (code ∷ []) are_bytes s = absurd (false≢true s)
pairs_short least (code ∷ value ∷ rest) are_bytes s =
    let t = thirds (leb least code) (is_listed value) (sound_pairs (suc code) rest) s in
    let first = all_cons (λ b. ltb b byte_values) code (value ∷ rest) are_bytes in
    let byte = ltb-true code byte_values first.0 in
    let least≤ = leb-true least code t.0 in
    let behind = pairs_short (suc code) rest (all_cons (λ b. ltb b byte_values) value rest first.1).1 t.2 in
    omega arith

module _ (a b c d : List ℕ) where
  four_framed : length (joined (map framed (a ∷ b ∷ c ∷ d ∷ []))) ≡ section_count * word_bytes + length a + length b + length c + length d
  unfolding joined
  four_framed =
      let cd = joined (map framed (c ∷ d ∷ [])) in
      let first = length-append (framed a) (framed b ++ cd) in
      let second = length-append (framed b) cd in
      let third = length-append (framed c) (framed d ++ []) in
      let fourth = length-append (framed d) [] in
      omega (arith, framed-length a, framed-length b, framed-length c, framed-length d)

pub moved_fits : (form : ℕ) (bytes : List ℕ) → all_bytes bytes ≡ true → is_sound bytes ≡ true → length (moved form bytes) ≤ moving_area
unfolding moved moved_sections
moved_fits form bytes are_bytes s =
    let parts = sound_parts bytes s in
    let switches = section_in characteristics_section bytes in
    let pairs = section_in attributes_section bytes in
    let set = section_in set_section bytes in
    let read = largest_read_as form (section_in largest_read_section bytes) in
    let four : length (joined (map framed (moved_sections form bytes))) ≡ section_count * word_bytes + length switches + length pairs + length set + length read
    = four_framed switches pairs set read
    in
    omega (
      arith,
      moving_room,
      four,
      switches_size switches (section_bytes characteristics_section bytes are_bytes) parts.switches,
      pairs_short 0 pairs (section_bytes attributes_section bytes are_bytes) parts.attributes,
      set_size_lem set parts.set,
      as_size form (section_in largest_read_section bytes),
    )
