-- Erasure of what an accepted host message does, and of loading.
use mathlib.Core.Path.{refl}
use Prim.Native.Nat.{ℕ}
use mathlib.Core.List.{List}
use Rattle.rules.specs.Messages.Forms.{Message}
use Rattle.rules.specs.State.{Characters}
use Rattle.rules.specs.Characteristics.{report}
use Rattle.rules.specs.Arrival.{rubbing_out}
use Rattle.rules.specs.Host.{our_initiate, initiates, reports, sets_characteristics, obeys}
use Rattle.rules.specs.Settings.{loads}
use Rattle.rules.specs.Calls.{map_text}
use Rattle.rules.proofs.Erasure.Maps.{Maps}
use Rattle.rules.proofs.Erasure.Turns.{Erases, erases_here, erases_sends, erases_changes, erases_then, erases_pick}
use Rattle.rules.proofs.Erasure.ReadData.{erase_unreads, erase_checks_input}
use Rattle.rules.proofs.Erasure.Arrival.{erase_clear_rule}
use Rattle.rules.proofs.Erasure.StartRead.{erase_starts_read}
use Rattle.rules.proofs.Erasure.Write.{erase_writes_out}

module _ {C D : Type 0} {f : C → D} {cs : Characters C} {ds : Characters D} (m : Maps f cs ds) where
  erase_initiates : Erases f initiates initiates
  unfolding initiates our_initiate map_text
  erase_initiates = erases_then (erases_changes _ _ (λ s. refl)) (erases_sends _ refl)

  erase_reports : (n : Message ℕ) → Erases f (reports n) (reports n)
  unfolding reports report map_text
  erase_reports n = record { at = λ s. erases_here s (erases_sends _ refl) }

  erase_sets_characteristics : (n : Message ℕ) → Erases f (sets_characteristics n) (sets_characteristics n)
  unfolding sets_characteristics
  erase_sets_characteristics n = erases_changes _ _ (λ s. refl)

  pub erase_loads : (own site : List ℕ) → Erases f (loads own site) (loads own site)
  unfolding loads
  erase_loads own site = erases_changes _ _ (λ s. refl)

  pub erase_obeys : (n : Message ℕ) → Erases f (obeys cs n) (obeys ds n)
  unfolding obeys
  erase_obeys n =
      erases_pick refl erase_initiates
      (erases_pick refl (erase_starts_read m n)
      (erases_pick refl (erase_unreads m n)
      (erases_pick refl (erase_clear_rule m rubbing_out)
      (erases_pick refl (erase_writes_out m n)
      (erases_pick refl (erase_reports n)
      (erases_pick refl (erase_sets_characteristics n)
      (erase_checks_input m)))))))
