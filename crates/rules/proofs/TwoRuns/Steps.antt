-- Agreement of two runs: a step, and the tick.
use Prim.Native.Nat.{ℕ}
use mathlib.Core.Path.{◌≡◌, refl, ap}
use mathlib.Core.Bool.{Bool, true, ◌&&◌}
use mathlib.Core.List.{List, [], ◌∷◌}
use mathlib.Core.Option.{Option, none, some}
use Rattle.rules.specs.Choice.{pick, all_are}
use Rattle.rules.specs.Screen.{DEL, echo, echo_terminator}
use Rattle.rules.specs.StartRead.{in_set}
use Rattle.rules.specs.State.{Key, Reading, with_idle}
use Rattle.rules.specs.Token.{ESC, CSI, standing, is_valid, is_whole, is_partial}
use Rattle.rules.specs.Turns.{edited}
use Rattle.rules.specs.ReadData.{by_valid_token, by_invalid_token}
use Rattle.rules.specs.Steps.{column_now, appended, is_edit_key, is_token_start, token_code, ends_by_token, takes_token, adds_to_token, echoes_if, takes_data, echoes_terminator_if, terminates}
use Rattle.rules.specs.Steps.{underflows, erases, erases_all, shows_again, edits, takes_plain, raised_by, takes, takes_first}
use Rattle.rules.specs.Steps.{steps_while, steps, sets_idle, idles, ticks_while, ticks}
use Rattle.rules.proofs.Choice.{pick_same, pick_case, all_snoc}
use Rattle.rules.proofs.TwoRuns.Printing.{printing}
use Rattle.rules.proofs.TwoRuns.Twins.{Twin, is_both, raise, code₁, code₂, first_chars, second_chars, same_code, same_codes, same_word}
use Rattle.rules.proofs.TwoRuns.Twins.{Settled, settled_code, settled_or, settled_and, LevelReading, LevelRead, Rules, Agreeing}
use Rattle.rules.proofs.TwoRuns.Turns.{level_typed, level_emptied, level_read, agrees_then, agrees_still, agrees_changes, agrees_writes, told}
use Rattle.rules.proofs.TwoRuns.Turns.{agrees_pick, agrees_only, by_test, by_code}
use Rattle.rules.proofs.TwoRuns.Fates.{tokened_both, Safe, taken_safe}
use Rattle.rules.proofs.TwoRuns.ReadData.{same_token, completes_agrees}
use Rattle.rules.proofs.TwoRuns.Editing.{deletes_agrees, redisplays_agrees}
use Rattle.rules.proofs.TwoRuns.Words.{left_by_delete_word_same}

module _ {changed : ℕ → Bool} where
  -- Tokens hold no changed key.

  same_token_code : (cs : List (Twin changed)) → all_are is_both cs ≡ true → token_code first_chars cs ≡ token_code second_chars cs
  unfolding token_code
  same_token_code cs e = ap (λ ns. pick (is_valid (standing ns)) by_valid_token by_invalid_token) (same_codes cs e)

  ends_by_token_agrees : (r : Reading (Twin changed)) → Agreeing (λ chars. ends_by_token chars r)
  unfolding ends_by_token
  ends_by_token_agrees r s l =
      agrees_then (agrees_changes (λ u. level_emptied)) (completes_agrees (same_token_code s.typed.token l.token) _ _) s l

  takes_token_agrees : (r : Reading (Twin changed)) → Agreeing (λ chars. takes_token chars r)
  unfolding takes_token
  takes_token_agrees r s l = agrees_pick refl (ends_by_token_agrees r) (completes_agrees refl 0 r) s l

  adds_to_token_agrees : (c : Twin changed) (r : Reading (Twin changed)) → Agreeing (λ chars. adds_to_token chars c r)
  unfolding adds_to_token
  adds_to_token_agrees c r =
      told _ _ (λ x y.
      agrees_then (agrees_changes (λ s l. level_typed (all_snoc is_both s.typed.token c l.token (tokened_both code₁ c x)) l))
      (λ s l. agrees_only (ap is_whole (same_token l)) (takes_token_agrees r) s l))

  -- Data: a read that echoes takes no changed key.

  level_appended : (c : Twin changed) (r : Reading (Twin changed)) → Safe r.terms c → LevelReading r →
      LevelReading (appended (c ∷ []) r)
  unfolding appended
  level_appended c r safe h e = all_snoc is_both r.input c (h e) (safe.shown e)

  takes_data_agrees : (c : Twin changed) (r : Reading (Twin changed)) → Safe r.terms c → LevelReading r →
      Agreeing (λ chars. takes_data chars c r)
  unfolding takes_data echoes_if
  takes_data_agrees c r safe h =
      agrees_then (agrees_changes (λ s. level_read (level_appended c r safe h)))
      (agrees_then
      (λ s. agrees_writes (pick_same r.terms.echoes [] (λ e. ap (echo (column_now s)) (same_code c (safe.shown e)))) s)
      (agrees_only refl (completes_agrees refl 0 _)))

  terminates_agrees : (c : Twin changed) (r : Reading (Twin changed)) → is_both c ≡ true → Agreeing (λ chars. terminates chars c r)
  unfolding terminates echoes_terminator_if
  terminates_agrees c r b =
      agrees_then
      (λ s. agrees_writes (ap (λ n. pick (r.terms.terminator_echo && r.terms.echoes) (echo_terminator (column_now s) n) []) (same_code c b)) s)
      (completes_agrees refl 1 _)

  -- Editing: what is deleted was shown only where it is the same in both runs.

  underflows_agrees : (c : Twin changed) (r : Reading (Twin changed)) → Agreeing (λ chars. underflows chars c r)
  unfolding underflows
  underflows_agrees c r =
      agrees_pick refl (completes_agrees refl 1 _) (told _ _ (λ x y. agrees_only refl (agrees_writes refl)))

  erases_agrees : {left left' : ℕ} → left ≡ left' → (c : Twin changed) (r : Reading (Twin changed)) → LevelReading r →
      Rules (erases first_chars left c r) (erases second_chars left' c r)
  unfolding erases
  erases_agrees {left} e c r h =
      rw (← e) (agrees_pick refl (underflows_agrees c r) (told _ _ (λ x y. deletes_agrees edited left r h)))

  erases_all_agrees : (c : Twin changed) (r : Reading (Twin changed)) → LevelReading r → Agreeing (λ chars. erases_all chars c r)
  unfolding erases_all
  erases_all_agrees c r h = told _ _ (λ x y. deletes_agrees edited 0 r h)

  shows_again_agrees : (c : Twin changed) (r : Reading (Twin changed)) → LevelReading r → Agreeing (λ chars. shows_again chars c r)
  unfolding shows_again
  shows_again_agrees c r h = told _ _ (λ x y. redisplays_agrees r h)

  edits_agrees : (c : Twin changed) (r : Reading (Twin changed)) → LevelReading r → Agreeing (λ chars. edits chars c r)
  unfolding edits printing
  edits_agrees c r h =
      by_code DEL refl c (λ b. erases_agrees refl c r h)
      (by_code 23 refl c (λ b. erases_agrees (left_by_delete_word_same code₁ code₂ same_word r.input) c r h)
      (by_code 21 refl c (λ b. erases_all_agrees c r h)
      (shows_again_agrees c r h)))

  -- The rules of a step.

  settled_edits : (c : Twin changed) (r : Reading (Twin changed)) → Settled (λ n. is_edit_key n r) c
  unfolding is_edit_key printing
  settled_edits c r =
      settled_or
      (settled_and _ (settled_or (settled_code DEL refl c) (settled_code 23 refl c)))
      (settled_and _ (settled_or (settled_code 21 refl c) (settled_code 18 refl c)))

  takes_plain_agrees : (c : Twin changed) (r : Reading (Twin changed)) → Safe r.terms c → LevelReading r →
      Agreeing (λ chars. takes_plain chars c r)
  unfolding takes_plain
  takes_plain_agrees c r safe h =
      by_test (in_set r.terms.set) c safe.unset (terminates_agrees c r)
      (by_test (λ n. is_edit_key n r) c (settled_edits c r) (λ b. edits_agrees c r h)
      (takes_data_agrees c r safe h))

  settled_begins : (c : Twin changed) (r : Reading (Twin changed)) → Settled (λ n. is_token_start n r) c
  unfolding is_token_start printing
  settled_begins c r = settled_and _ (settled_or (settled_code ESC refl c) (settled_code CSI refl c))

  takes_agrees : (k : Key (Twin changed)) (r : Reading (Twin changed)) → Safe r.terms k.char × Safe r.terms (raise k.char) →
      LevelReading r → Agreeing (λ chars. takes chars k r)
  unfolding takes raised_by
  takes_agrees k r (safe, safe_raised) h s l =
      agrees_pick (ap is_partial (same_token l)) (adds_to_token_agrees k.char r)
      (agrees_pick refl (takes_data_agrees k.char r safe h)
      (by_test (λ n. is_token_start n r) k.char (settled_begins k.char r) (λ b. adds_to_token_agrees k.char r)
      (takes_plain_agrees _ r (pick_case (Safe r.terms) r.terms.raises (λ e. safe_raised) (λ e. safe)) h))) s l

  takes_first_agrees : (ks : List (Key (Twin changed))) (r : Reading (Twin changed)) → LevelReading r →
      Agreeing (λ chars. takes_first chars ks r)
  unfolding takes_first
  takes_first_agrees [] r h = agrees_only refl (completes_agrees refl 0 r)
  takes_first_agrees (k ∷ ks) r h =
      told _ _ (λ x y.
      agrees_then (agrees_changes (λ s l. level_read h (level_typed l.token l)))
      (takes_agrees k (with_idle 0 r) (taken_safe k.char r.terms x y) h))

  steps_while_agrees : (o : Option (Reading (Twin changed))) → LevelRead o → Agreeing (λ chars. steps_while chars o)
  unfolding steps_while
  steps_while_agrees none h = agrees_still
  steps_while_agrees (some r) h = λ s l.
      agrees_pick (ap is_whole (same_token l)) (takes_token_agrees r) (takes_first_agrees s.typed.type_ahead r h) s l

  pub steps_agrees : Agreeing {changed = changed} steps
  unfolding steps
  steps_agrees s l = agrees_only refl (steps_while_agrees s.pending_read l.pending_read) s l

  -- The tick.

  idles_agrees : (r : Reading (Twin changed)) → LevelReading r → Agreeing (λ chars. idles chars r)
  unfolding idles sets_idle
  idles_agrees r h = agrees_pick refl (completes_agrees refl 0 r) (agrees_changes (λ s. level_read h))

  ticks_while_agrees : (o : Option (Reading (Twin changed))) → LevelRead o → Agreeing (λ chars. ticks_while chars o)
  unfolding ticks_while
  ticks_while_agrees none h = agrees_still
  ticks_while_agrees (some r) h = λ s l. rw (same_token l) (agrees_only refl (idles_agrees r h) s l)

  pub ticks_agrees : Agreeing {changed = changed} ticks
  unfolding ticks
  ticks_agrees s l = ticks_while_agrees s.pending_read l.pending_read s l
