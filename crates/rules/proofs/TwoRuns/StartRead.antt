-- Agreement of two runs: what acceptance of a Start Read does.
use Prim.Native.Nat.{ℕ}
use mathlib.Core.Path.{◌≡◌, refl}
use mathlib.Core.Bool.{Bool, true}
use mathlib.Core.List.{List, [], ◌∷◌, map}
use lib.ListN.{drop}
use Rattle.rules.specs.Choice.{all_are}
use Rattle.rules.specs.Messages.Forms.{Message}
use Rattle.rules.specs.State.{Reading}
use Rattle.rules.specs.TwoRuns.{preloaded}
use Rattle.rules.specs.StartRead.{end_of_prompt}
use Rattle.rules.specs.StartRead.Acceptance.{shown_prompt, data_behind, hides_input, opened_terms, opened_read, remembers_set, clears_first, feeds_line, auto_prompts, completes_if_full, begins, starts_read}
use Rattle.rules.proofs.TwoRuns.Twins.{Twin, both, is_both, first_chars, LevelReading}
use Rattle.rules.proofs.TwoRuns.Twins.{Agreeing}
use Rattle.rules.proofs.TwoRuns.Turns.{agrees_host, agrees_then, agrees_writes, agrees_only}
use Rattle.rules.proofs.TwoRuns.ReadData.{completes_agrees}
use Rattle.rules.proofs.TwoRuns.Editing.{displays_agrees}
use Rattle.rules.proofs.TwoRuns.Arrival.{empties_typed_agrees}

-- the text that a Start Read brings is the same in both runs
given_both : (changed : ℕ → Bool) (ns : List ℕ) → all_are (is_both {changed = changed}) (map (λ n. both (preloaded n)) ns) ≡ true
unfolding all_are
given_both changed [] = refl
given_both changed (n ∷ ns) = given_both changed ns

module _ {changed : ℕ → Bool} where
  begins_agrees : (m : Message ℕ) (r : Reading (Twin changed)) → LevelReading r → Agreeing (λ chars. begins chars m r)
  unfolding begins clears_first feeds_line auto_prompts completes_if_full
  begins_agrees m r h =
      agrees_then (agrees_only refl empties_typed_agrees)
      (agrees_then (λ s. agrees_only refl (agrees_writes refl) s)
      (agrees_then (λ s. agrees_only refl (agrees_writes refl) s)
      (agrees_then (displays_agrees r h)
      (agrees_only refl (completes_agrees refl 0 r)))))

  remembers_set_agrees : (m : Message ℕ) → Agreeing {changed = changed} (λ chars. remembers_set chars m)
  unfolding remembers_set
  remembers_set_agrees m = agrees_only refl (agrees_host _)

  pub starts_read_agrees : (m : Message ℕ) → Agreeing {changed = changed} (λ chars. starts_read chars m)
  unfolding starts_read opened_read data_behind hides_input opened_terms shown_prompt
  starts_read_agrees m s =
      let r = opened_read first_chars m s in
      agrees_then (begins_agrees m r (λ e. given_both changed (drop (end_of_prompt m) m.text))) (remembers_set_agrees m) s
