-- Agreement of two runs: a pending read is deleted from and displayed.
use Prim.Native.Nat.{ℕ, ◌-◌}
use mathlib.Core.Path.{◌≡◌, refl, ap}
use mathlib.Core.Bool.{Bool, true}
use mathlib.Core.List.{List, []}
use lib.ListN.{drop}
use Rattle.rules.specs.Choice.{pick, all_are}
use Rattle.rules.specs.Screen.{echo_all, marks_behind, rub_out}
use Rattle.rules.specs.State.{Reading}
use Rattle.rules.specs.Turns.{Fate}
use Rattle.rules.specs.Editing.{hidden_count, shortened, deletes_without_rubbing, displayed, rub_out_bytes, deletes, displays_data, displays, redisplays}
use Rattle.rules.proofs.Choice.{pick_same, all_split}
use Rattle.rules.proofs.TwoRuns.Twins.{Twin, is_both, first_chars, second_chars, same_codes, LevelReading}
use Rattle.rules.proofs.TwoRuns.Twins.{Agreeing}
use Rattle.rules.proofs.TwoRuns.Turns.{level_read, agrees_then, agrees_changes, agrees_writes, told}

module _ {changed : ℕ → Bool} where
  same_displayed : (r : Reading (Twin changed)) → all_are is_both r.input ≡ true → displayed first_chars r ≡ displayed second_chars r
  unfolding displayed
  same_displayed r e = ap (drop (hidden_count r)) (same_codes r.input e)

  -- what is written of a read's display, where it echoes
  same_shown : (r : Reading (Twin changed)) → LevelReading r → (f : List ℕ → List ℕ) →
      pick r.terms.echoes (f (displayed first_chars r)) [] ≡ pick r.terms.echoes (f (displayed second_chars r)) []
  same_shown r h f = pick_same r.terms.echoes [] (λ e. ap f (same_displayed r (h e)))

  pub deletes_without_rubbing_agrees : (fate : Twin changed → Fate (Twin changed)) (left : ℕ) (r : Reading (Twin changed)) → LevelReading r →
      Agreeing (λ chars. deletes_without_rubbing fate left r)
  unfolding deletes_without_rubbing shortened
  deletes_without_rubbing_agrees fate left r h =
      told _ _ (λ x y. agrees_changes (λ s. level_read (λ e. (all_split is_both left r.input (h e)).0)))

  pub deletes_agrees : (fate : Twin changed → Fate (Twin changed)) (left : ℕ) (r : Reading (Twin changed)) → LevelReading r →
      Agreeing (λ chars. deletes chars fate left r)
  unfolding deletes rub_out_bytes
  deletes_agrees fate left r h =
      agrees_then
      (agrees_writes (same_shown r h (λ ns. rub_out (marks_behind (left - hidden_count r) r.display_column ns))))
      (deletes_without_rubbing_agrees fate left r h)

  pub displays_agrees : (r : Reading (Twin changed)) → LevelReading r → Agreeing (λ chars. displays chars r)
  unfolding displays displays_data
  displays_agrees r h =
      agrees_then (agrees_writes refl) (λ s.
      agrees_then (agrees_changes (λ u. level_read h))
      (agrees_writes (same_shown r h (echo_all s.terminal.screen.column))) s)

  pub redisplays_agrees : (r : Reading (Twin changed)) → LevelReading r → Agreeing (λ chars. redisplays chars r)
  unfolding redisplays
  redisplays_agrees r h = agrees_then (agrees_writes refl) (displays_agrees r h)
