-- Agreement of two runs: a key arrives, and the clear rule.
use Prim.Native.Nat.{ℕ}
use mathlib.Core.Path.{◌≡◌, refl, ap}
use mathlib.Core.Bool.{Bool, true, false}
use mathlib.Core.List.{[], ◌∷◌}
use mathlib.Core.Option.{Option, none, some}
use Rattle.rules.specs.Messages.Forms as forms
use Rattle.rules.specs.Messages.Forms.{plain}
use Rattle.rules.specs.State.{Reading, State}
use Rattle.rules.specs.Turns.{cleared}
use Rattle.rules.specs.Arrival.{is_hello, is_immediate_clear, idle_again, keeps, counts_dropped, drops, stores, stores_quoted, quotes, sends_discard_state, unlocks, unlocks_if_discarding, flips_discard}
use Rattle.rules.specs.Arrival.{Rubbing, rubbing_out, without_rubbing, empties_typed, clears_input, clear_rule, clears_by}
use Rattle.rules.specs.Arrival.{sends_out_of_band, ends_out_of_band, clears_at_once, controlled, by_first_rule, arrives}
use Rattle.rules.proofs.Choice.{pick_cases}
use Rattle.rules.proofs.TwoRuns.Printing.{printing}
use Rattle.rules.proofs.TwoRuns.Twins.{Twin, is_both, code₁, code₂, first_chars, second_chars, same_code}
use Rattle.rules.proofs.TwoRuns.Twins.{LevelRead, Level, is_guarded, RulesAt, Agreeing}
use Rattle.rules.proofs.TwoRuns.Turns.{level_emptied, agrees_terminal, agrees_then, agrees_still, agrees_changes, agrees_writes, agrees_sends, told_at, told}
use Rattle.rules.proofs.TwoRuns.Turns.{agrees_pick, agrees_only, by_test, by_code}
use Rattle.rules.proofs.TwoRuns.Bands.{attribute_at, Passed, Initiated}
use Rattle.rules.proofs.TwoRuns.ReadData.{completes_agrees}
use Rattle.rules.proofs.TwoRuns.Editing.{deletes_without_rubbing_agrees, deletes_agrees}

module _ {changed : ℕ → Bool} where
  -- Storing: the code is not looked at.

  level_idle : (o : Option (Reading (Twin changed))) → LevelRead o → LevelRead (idle_again o)
  unfolding idle_again
  level_idle none h = tt
  level_idle (some r) h = h

  keeps_agrees : (quoted : Bool) (c : Twin changed) → Agreeing (λ chars. keeps quoted c)
  unfolding keeps
  keeps_agrees quoted c = agrees_changes (λ s l. record { token = l.token; pending_read = level_idle s.pending_read l.pending_read })

  drops_agrees : (c : Twin changed) → Agreeing (λ chars. drops c)
  unfolding drops counts_dropped
  drops_agrees c = told _ _ (λ x y. agrees_then (agrees_writes refl) (agrees_terminal _))

  stores_agrees : (limit : ℕ) (quoted : Bool) (c : Twin changed) → Agreeing (λ chars. stores limit quoted c)
  unfolding stores
  stores_agrees limit quoted c s = agrees_pick refl (keeps_agrees quoted c) (drops_agrees c) s

  stores_quoted_agrees : (c : Twin changed) → Agreeing (λ chars. stores_quoted c)
  unfolding stores_quoted
  stores_quoted_agrees c = agrees_then (agrees_terminal _) (stores_agrees _ true c)

  -- Controls.

  quotes_agrees : (c : Twin changed) → Agreeing (λ chars. quotes c)
  unfolding quotes
  quotes_agrees c = told _ _ (λ x y. agrees_terminal _)

  unlocks_agrees : Agreeing {changed = changed} (λ chars. unlocks)
  unfolding unlocks
  unlocks_agrees = agrees_terminal _

  flips_discard_agrees : (c : Twin changed) → Agreeing (λ chars. flips_discard c)
  unfolding flips_discard sends_discard_state unlocks_if_discarding is_guarded
  flips_discard_agrees c =
      told _ _ (λ x y.
      agrees_then (agrees_terminal _) (agrees_then (λ s. agrees_sends refl refl s) (λ s. agrees_only refl unlocks_agrees s)))

  -- The clear rule.

  pub empties_typed_agrees : Agreeing {changed = changed} (λ chars. empties_typed)
  unfolding empties_typed
  empties_typed_agrees s = told _ _ (λ x y. agrees_changes (λ u. level_emptied)) s

  clears_input_agrees : (rubbing : Rubbing) (o : Option (Reading (Twin changed))) → LevelRead o → Agreeing (λ chars. clears_input chars rubbing o)
  unfolding clears_input
  clears_input_agrees rubbing none h = agrees_still
  clears_input_agrees rubbing_out (some r) h = deletes_agrees cleared 0 r h
  clears_input_agrees without_rubbing (some r) h = deletes_without_rubbing_agrees cleared 0 r h

  pub clear_rule_agrees : (rubbing : Rubbing) → Agreeing {changed = changed} (λ chars. clear_rule chars rubbing)
  unfolding clear_rule
  clear_rule_agrees rubbing = agrees_then empties_typed_agrees (λ s l. clears_input_agrees rubbing s.pending_read l.pending_read s l)

  clears_by_agrees : (c : Twin changed) → Agreeing (λ chars. clears_by chars c)
  unfolding clears_by
  clears_by_agrees c = told _ _ (λ x y. clear_rule_agrees rubbing_out)

  -- Out of band: never a changed key.

  sends_out_of_band_agrees : (c : Twin changed) → is_both c ≡ true → Agreeing (λ chars. sends_out_of_band chars c)
  unfolding sends_out_of_band is_guarded
  sends_out_of_band_agrees c b =
      told _ _ (λ x y. agrees_sends (ap (λ n. plain forms.out_of_band (0 ∷ n ∷ [])) (same_code c b)) refl)

  ends_out_of_band_agrees : (o : Option (Reading (Twin changed))) → Agreeing (λ chars. ends_out_of_band chars o)
  unfolding ends_out_of_band
  ends_out_of_band_agrees none = agrees_still
  ends_out_of_band_agrees (some r) = completes_agrees refl 0 r

  clears_at_once_agrees : (c : Twin changed) → is_both c ≡ true → Agreeing (λ chars. clears_at_once chars c)
  unfolding clears_at_once
  clears_at_once_agrees c b =
      agrees_then (sends_out_of_band_agrees c b)
      (agrees_then unlocks_agrees
      (agrees_then (clear_rule_agrees without_rubbing) (λ s. ends_out_of_band_agrees s.pending_read s)))

  -- The rules of arrival.

  controlled_agrees : (c : Twin changed) → Agreeing (λ chars. controlled chars c)
  unfolding controlled printing
  controlled_agrees c =
      by_code 22 refl c (λ b. quotes_agrees c)
      (by_code 24 refl c (λ b. clears_by_agrees c)
      (by_code 15 refl c (λ b. flips_discard_agrees c)
      (stores_agrees _ false c)))

  -- rule 2 passes a changed key over, by its code in each run
  pub record Unacted (c : Twin changed) (s : State (Twin changed)) : Type 0 where
    pub first : is_both c ≡ false → Initiated s → Passed s (code₁ c)
    pub second : is_both c ≡ false → Initiated s → Passed s (code₂ c)

  by_first_rule_agrees : (c : Twin changed) (s : State (Twin changed)) → s.host.initiated ≡ true → Unacted c s → Level s →
      RulesAt s (by_first_rule first_chars c) (by_first_rule second_chars c)
  unfolding by_first_rule
  by_first_rule_agrees c s b unacted l =
      pick_cases (RulesAt s) s.terminal.quoting (λ q. stores_quoted_agrees c s l) (λ q.
      let first : is_both c ≡ false → Passed s (code₁ c) = λ a. unacted.first a (b, q) in
      let second : is_both c ≡ false → Passed s (code₂ c) = λ a. unacted.second a (b, q) in
      by_test (λ n. is_hello (attribute_at s n)) c (record { first = λ a. (first a).hello; second = λ a. (second a).hello })
      (sends_out_of_band_agrees c)
      (by_test (λ n. is_immediate_clear (attribute_at s n)) c (record { first = λ a. (first a).clear; second = λ a. (second a).clear })
      (clears_at_once_agrees c)
      (agrees_pick refl (stores_agrees _ false c)
      (controlled_agrees c))) s l)

  pub arrives_agrees : (c : Twin changed) (s : State (Twin changed)) → Unacted c s → Level s →
      RulesAt s (arrives first_chars c) (arrives second_chars c)
  unfolding arrives
  arrives_agrees c s unacted l =
      told_at _ _ _ _ l (λ x y.
      pick_cases (RulesAt s) s.host.initiated (λ b. by_first_rule_agrees c s b unacted l) (λ b. stores_agrees _ false c s l))
