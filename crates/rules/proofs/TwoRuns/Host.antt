-- Agreement of two runs: what an accepted host message does, and loading.
use Prim.Native.Nat.{ℕ}
use mathlib.Core.Path.{refl}
use mathlib.Core.Bool.{Bool}
use mathlib.Core.List.{List}
use Rattle.rules.specs.Messages.Forms.{Message}
use Rattle.rules.specs.Arrival.{rubbing_out}
use Rattle.rules.specs.ReadData.{checks_input}
use Rattle.rules.specs.Characteristics.{report}
use Rattle.rules.specs.Host.{our_initiate, initiates, reports, sets_characteristics, obeys}
use Rattle.rules.specs.Settings.{loads}
use Rattle.rules.proofs.TwoRuns.Twins.{is_guarded, Agreeing}
use Rattle.rules.proofs.TwoRuns.Turns.{agrees_host, agrees_then, agrees_sends, agrees_pick}
use Rattle.rules.proofs.TwoRuns.ReadData.{unreads_agrees}
use Rattle.rules.proofs.TwoRuns.Arrival.{clear_rule_agrees}
use Rattle.rules.proofs.TwoRuns.StartRead.{starts_read_agrees}
use Rattle.rules.proofs.TwoRuns.Write.{writes_out_agrees}

module _ {changed : ℕ → Bool} where
  initiates_agrees : Agreeing {changed = changed} (λ chars. initiates)
  unfolding initiates our_initiate is_guarded
  initiates_agrees = agrees_then (agrees_host _) (agrees_sends refl refl)

  reports_agrees : (m : Message ℕ) → Agreeing {changed = changed} (λ chars. reports m)
  unfolding reports report is_guarded
  reports_agrees m s = agrees_sends refl refl s

  sets_characteristics_agrees : (m : Message ℕ) → Agreeing {changed = changed} (λ chars. sets_characteristics m)
  unfolding sets_characteristics
  sets_characteristics_agrees m = agrees_host _

  pub loads_agrees : (own site : List ℕ) → Agreeing {changed = changed} (λ chars. loads own site)
  unfolding loads
  loads_agrees own site = agrees_host _

  checks_input_agrees : Agreeing {changed = changed} (λ chars. checks_input)
  unfolding checks_input is_guarded
  checks_input_agrees s = agrees_sends refl refl s

  pub obeys_agrees : (m : Message ℕ) → Agreeing {changed = changed} (λ chars. obeys chars m)
  unfolding obeys
  obeys_agrees m =
      agrees_pick refl initiates_agrees
      (agrees_pick refl (starts_read_agrees m)
      (agrees_pick refl (unreads_agrees m)
      (agrees_pick refl (clear_rule_agrees rubbing_out)
      (agrees_pick refl (writes_out_agrees m)
      (agrees_pick refl (reports_agrees m)
      (agrees_pick refl (sets_characteristics_agrees m)
      checks_input_agrees))))))
