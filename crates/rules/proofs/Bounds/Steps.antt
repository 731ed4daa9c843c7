-- A step and a tick within bounds.
use mathlib.Core.Path.{◌≡◌, refl, sym, ◌∙◌, subst}
use Prim.Native.Nat.{ℕ, ◌+◌, ◌*◌, ◌≤◌, ◌<◌}
use native.Mathlib.Omega.{arith}
use mathlib.Core.Bool.{Bool, true, false, not, ◌&&◌, true≢false}
use mathlib.Core.List.{List, [], ◌∷◌, ◌++◌, map}
use mathlib.Core.Option.{Option, none, some}
use lib.Dec.{ltb, leb, eqb}
use lib.ListN.{length, length-append, length-map}
use borrow.Author.Tests.{ltb-true, leb-true, leb-false, eqb-false, not-false}
use Rattle.rules.specs.Choice.{pick}
use Rattle.rules.specs.Numbers.{input_size, token_size}
use Rattle.rules.specs.Messages.Codec.{all_bytes}
use Rattle.rules.specs.State.{Key, Reading, State, codes, raised, with_idle}
use Rattle.rules.specs.Token.{Place, empty, invalid, place_from, is_finished, standing, is_whole}
use Rattle.rules.specs.Turns.{Fate, edited}
use Rattle.rules.specs.ReadData.{token_codes, by_terminator, by_timeout, by_underflow, by_absentee}
use Rattle.rules.specs.Editing.{end_of, deletes}
use Rattle.rules.specs.Steps.{appended, token_code, ends_by_token, takes_token, adds_to_token, echoes_if, takes_data, echoes_terminator_if, terminates, underflows, erases, erases_all}
use Rattle.rules.specs.Steps.{shows_again, edits, takes_plain, raised_by, takes, takes_first, steps_while, steps, sets_idle, idles, ticks_while, ticks}
use Rattle.rules.specs.Bounds.{BoundedTyped, BoundedReading, BoundedRead}
use Rattle.rules.proofs.Choice.{pick_case, all_cons}
use Rattle.rules.proofs.Bounds.Bytes.{one_byte, bytes_append}
use Rattle.rules.proofs.Bounds.Screen.{echo-length, echo_terminator-length}
use Rattle.rules.proofs.Bounds.Turns.{Steady, Good, Fine, answer_area, FineStep, retyped, reread}
use Rattle.rules.proofs.Bounds.Turns.{still_good, changes_good, writes_good, tells_then, changes_then, writes_sends, roomier, pick_good, only_good}
use Rattle.rules.proofs.Bounds.ReadData.{Answerable, bounded_answerable, emptied, completes_good, completes_fine, completes_full}
use Rattle.rules.proofs.Bounds.Editing.{deletes_good, redisplay_bytes, redisplays_good}
use Rattle.rules.proofs.Bounds.Arrival.{idle_bounded}

-- A read with more input, as far as it fits.
appended_answerable : (cs : List ℕ) (r : Reading ℕ) → BoundedReading r → all_bytes cs ≡ true → end_of r + length cs ≤ r.terms.max_length →
    Answerable (appended cs r)
unfolding appended end_of
appended_answerable cs r b bytes room =
    let n = length-append r.input cs in
    record { input = omega arith; low_water = omega arith; bytes = bytes_append r.input cs b.input_bytes bytes }

appended_bounded : (cs : List ℕ) (r : Reading ℕ) → BoundedReading r → all_bytes cs ≡ true → end_of r + length cs < r.terms.max_length →
    BoundedReading (appended cs r)
unfolding appended end_of
appended_bounded cs r b bytes room =
    let n = length-append r.input cs in
    record {
      terms = b.terms;
      room = omega arith;
      low_water = omega arith;
      input_bytes = bytes_append r.input cs b.input_bytes bytes;
      idle = b.idle;
      display_column = b.display_column;
    }

-- Tokens: one that is not whole has room.
unfinished_room : (t : Bool) (p : Place) → is_finished (pick (t && not (is_finished p)) invalid p) ≡ false → t ≡ false
unfolding is_finished
unfinished_room false p e = refl
unfinished_room true p e =
    let finished = pick_case (λ (q : Place). is_finished q ≡ true) _ {a = invalid} {b = p} (λ y. refl) (λ n. not-false (is_finished p) n) in
    absurd (true≢false (sym finished ∙ e))

pub whole_room : (token : List ℕ) → is_whole token ≡ false → length token < token_size
unfolding is_whole standing
whole_room token e = leb-false token_size (length token) (unfinished_room (leb token_size (length token)) (place_from empty token) e)

token_room : (token : List ℕ) → is_whole (map codes.code token) ≡ false → length token < token_size
token_room token e =
    let n = length-map token codes.code in
    let l = whole_room (map codes.code token) e in
    omega arith

token_code_most : (token : List ℕ) → token_code codes token ≤ 13
unfolding token_code
token_code_most token = pick_case (λ (n : ℕ). n ≤ 13) _ (λ y. omega arith) (λ n. omega arith)

-- the first key and those behind it
first_bounded : (k : Key ℕ) (ks : List (Key ℕ)) (token : List ℕ) → BoundedTyped (record { type_ahead = k ∷ ks; token = token }) →
    (k.char < 256) × BoundedTyped (record { type_ahead = ks; token = token })
unfolding all_bytes
first_bounded k ks token b =
    let keys = all_cons (λ b. ltb b 256) k.char (map (λ k. k.char) ks) b.key_bytes in
    (ltb-true k.char 256 keys.0, record { type_ahead = omega arith; token = b.token; key_bytes = keys.1; token_bytes = b.token_bytes })

-- Echoes and raised characters.
echoed_length : (t : Bool) (bs : List ℕ) → length bs ≤ 8 → length (pick t bs []) ≤ 8
echoed_length t bs h = pick_case (λ (cs : List ℕ). length cs ≤ 8) t (λ y. h) (λ n. omega arith)

raised_by_byte : (r : Reading ℕ) (c : ℕ) → c < 256 → raised_by codes r c < 256
unfolding raised_by raised
raised_by_byte r c h =
    pick_case (λ (n : ℕ). n < 256) _ (λ y. pick_case (λ (n : ℕ). n < 256) _ (λ y. omega arith) (λ n. h)) (λ n. h)

module _ (r : Reading ℕ) (b : BoundedReading r) where
  -- tokens never echo
  takes_token_good : {bytes : ℕ} {s : State ℕ} → Steady BoundedRead s → Good BoundedRead bytes answer_area (takes_token codes r s)
  unfolding takes_token ends_by_token
  takes_token_good {s = s} h =
      pick_good _ _ _
      (λ y. changes_then _ _
      (completes_good (token_code codes s.typed.token) _ _ (token_code_most s.typed.token)
      (appended_answerable s.typed.token r b h.typed.token_bytes (leb-true (end_of r + length s.typed.token) r.terms.max_length y))
      (retyped h (emptied h.typed)))) λ n.
      completes_good by_absentee 0 r (omega arith) (bounded_answerable r b) h

  -- into a token that is not whole
  adds_to_token_fine : {s : State ℕ} (c : ℕ) → c < 256 → is_whole (token_codes codes s) ≡ false → Steady BoundedRead s → FineStep (adds_to_token codes c r s)
  unfolding adds_to_token
  adds_to_token_fine {s = s} c byte part h =
      let room = token_room s.typed.token part in
      let n = length-append s.typed.token (c ∷ []) in
      let h₁ = retyped h {keys = s.typed.type_ahead} {token = s.typed.token ++ (c ∷ [])} (record {
        type_ahead = h.typed.type_ahead;
        token = omega arith;
        key_bytes = h.typed.key_bytes;
        token_bytes = bytes_append s.typed.token (c ∷ []) h.typed.token_bytes (one_byte c byte);
      }) in
      tells_then _ _ (changes_then _ _ (only_good _ _ (λ y. takes_token_good h₁) (λ n. h₁)))

  deletes_fine : {s : State ℕ} (fate : ℕ → Fate ℕ) (left : ℕ) → Steady BoundedRead s → FineStep (deletes codes fate left r s)
  deletes_fine fate left h = roomier (24 * input_size) 0 (omega arith) (omega arith) (deletes_good fate left r b h)

  module _ (c : ℕ) (byte : c < 256) where
    -- with one character more, which there is room for
    one_answerable : Answerable (appended (c ∷ []) r)
    one_answerable = appended_answerable (c ∷ []) r b (one_byte c byte) (omega arith)

    one_bounded : eqb (end_of r + 1) r.terms.max_length ≡ false → BoundedReading (appended (c ∷ []) r)
    one_bounded n =
        let more = eqb-false (end_of r + 1) r.terms.max_length n in
        appended_bounded (c ∷ []) r b (one_byte c byte) (omega arith)

    takes_data_fine : {s : State ℕ} → Steady BoundedRead s → FineStep (takes_data codes c r s)
    unfolding takes_data echoes_if
    takes_data_fine h =
        let full = eqb (end_of r + 1) r.terms.max_length in
        roomier 8 answer_area (omega arith) (omega arith)
        (changes_then _ _
        (writes_sends _ _ (writes_good _ (echoed_length r.terms.echoes _ (echo-length _ c)) (reread h (some (appended (c ∷ []) r)) one_bounded)) λ s₁ h₁.
        completes_full full (appended (c ∷ []) r) one_answerable h₁))

    terminates_fine : {s : State ℕ} → Steady BoundedRead s → FineStep (terminates codes c r s)
    unfolding terminates echoes_terminator_if
    terminates_fine h =
        roomier 8 answer_area (omega arith) (omega arith)
        (writes_sends _ _ (writes_good _ (echoed_length (r.terms.terminator_echo && r.terms.echoes) _ (echo_terminator-length _ c)) h) λ s₁ h₁.
        completes_good by_terminator 1 (appended (c ∷ []) r) (omega arith) one_answerable h₁)

    underflows_fine : {s : State ℕ} → Steady BoundedRead s → FineStep (underflows codes c r s)
    unfolding underflows
    underflows_fine h =
        pick_good _ _ _ (λ y. completes_good by_underflow 1 (appended (c ∷ []) r) (omega arith) one_answerable h) λ n.
        roomier 1 0 (omega arith) (omega arith) (tells_then _ _ (only_good _ _ (λ y. writes_good _ (omega arith) h) (λ n. h)))

    erases_fine : {s : State ℕ} (left : ℕ) → Steady BoundedRead s → FineStep (erases codes left c r s)
    unfolding erases
    erases_fine left h = pick_good _ _ _ (λ y. underflows_fine h) λ n. tells_then _ _ (deletes_fine edited left h)

    edits_fine : {s : State ℕ} → Steady BoundedRead s → FineStep (edits codes c r s)
    unfolding edits erases_all shows_again
    edits_fine h =
        pick_good _ _ _ (λ y. erases_fine _ h) λ n.
        pick_good _ _ _ (λ y. erases_fine _ h) λ n.
        pick_good _ _ _ (λ y. tells_then _ _ (deletes_fine edited 0 h)) λ n.
        tells_then _ _ (roomier redisplay_bytes 0 (omega arith) (omega arith) (redisplays_good r b h))

    takes_plain_fine : {s : State ℕ} → Steady BoundedRead s → FineStep (takes_plain codes c r s)
    unfolding takes_plain
    takes_plain_fine h =
        pick_good _ _ _ (λ y. terminates_fine h) λ n.
        pick_good _ _ _ (λ y. edits_fine h) λ n.
        takes_data_fine h

  takes_fine : {s : State ℕ} (k : Key ℕ) → k.char < 256 → is_whole (token_codes codes s) ≡ false → Steady BoundedRead s → FineStep (takes codes k r s)
  unfolding takes
  takes_fine k byte part h =
      pick_good _ _ _ (λ y. adds_to_token_fine k.char byte part h) λ n.
      pick_good _ _ _ (λ y. takes_data_fine k.char byte h) λ n.
      pick_good _ _ _ (λ y. adds_to_token_fine k.char byte part h) λ n.
      takes_plain_fine (raised_by codes r k.char) (raised_by_byte r k.char byte) h

module _ (r : Reading ℕ) (b : BoundedReading r) {s : State ℕ} (h : Steady BoundedRead s) where
  -- no key: nothing is written
  takes_none_good : {bytes : ℕ} → Good BoundedRead bytes answer_area (takes_first codes [] r s)
  unfolding takes_first
  takes_none_good = only_good _ _ (λ y. completes_good by_timeout 0 r (omega arith) (bounded_answerable r b) h) (λ n. h)

  -- the first key of type-ahead, with no whole token before it
  takes_first_fine : (keys : List (Key ℕ)) → BoundedTyped (record { type_ahead = keys; token = s.typed.token }) →
      is_whole (token_codes codes s) ≡ false → FineStep (takes_first codes keys r s)
  unfolding takes_first
  takes_first_fine [] typed part = takes_none_good
  takes_first_fine (k ∷ ks) typed part =
      let first = first_bounded k ks s.typed.token typed in
      let again = idle_bounded 0 r (λ timed due. due) b in
      tells_then _ _ (changes_then _ _
      (takes_fine (with_idle 0 r) again k first.0 part (reread (retyped h first.1) (some (with_idle 0 r)) again)))

  idles_fine : Fine (idles codes r s)
  unfolding idles sets_idle
  idles_fine =
      pick_good _ _ _ (λ y. completes_fine by_timeout 0 r (omega arith) (bounded_answerable r b) h) λ n.
      let due = leb-false r.terms.timeout (r.idle + 1) n in
      changes_good _ (reread h (some (with_idle (r.idle + 1) r)) (idle_bounded (r.idle + 1) r (λ timed some_time. due) b))

module _ {s : State ℕ} (h : Steady BoundedRead s) where
  steps_while_fine : (o : Option (Reading ℕ)) → BoundedRead o → FineStep (steps_while codes o s)
  unfolding steps_while
  steps_while_fine none b = still_good h
  steps_while_fine (some r) b =
      pick_good _ _ _ (λ y. takes_token_good r b h) λ n.
      takes_first_fine r b h s.typed.type_ahead h.typed n

  ticks_while_fine : (o : Option (Reading ℕ)) → BoundedRead o → Fine (ticks_while codes o s)
  unfolding ticks_while
  ticks_while_fine none b = still_good h
  ticks_while_fine (some r) b = only_good _ _ (λ y. idles_fine r b h) (λ n. h)

  pub steps_fine : FineStep (steps codes s)
  unfolding steps
  steps_fine = only_good _ _ (λ y. steps_while_fine s.pending_read h.pending_read) (λ n. h)

  -- a step that finds no key shows nothing
  steps_while_without_keys : (o : Option (Reading ℕ)) → BoundedRead o → s.typed.type_ahead ≡ [] → Good BoundedRead 0 answer_area (steps_while codes o s)
  unfolding steps_while
  steps_while_without_keys none b e = still_good h
  steps_while_without_keys (some r) b e =
      pick_good _ _ _ (λ y. takes_token_good r b h) λ n.
      subst (λ keys. Good BoundedRead 0 answer_area (takes_first codes keys r s)) (sym e) (takes_none_good r b h)

  pub steps_without_keys : s.typed.type_ahead ≡ [] → Good BoundedRead 0 answer_area (steps codes s)
  unfolding steps
  steps_without_keys e = only_good _ _ (λ y. steps_while_without_keys s.pending_read h.pending_read e) (λ n. h)

  -- and one that finds no read does nothing
  pub steps_without_read : s.pending_read ≡ none → Good BoundedRead 0 0 (steps codes s)
  unfolding steps steps_while
  steps_without_read e =
      only_good _ _ (λ y. subst (λ o. Good BoundedRead 0 0 (steps_while codes o s)) (sym e) (still_good h)) (λ n. h)

  pub ticks_fine : Fine (ticks codes s)
  unfolding ticks
  ticks_fine = ticks_while_fine s.pending_read h.pending_read
