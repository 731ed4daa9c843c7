-- Erasure of a rule, and one law for each word that rules are put together with.
use mathlib.Core.Path.{◌≡◌, refl}
use Prim.Native.Nat.{ℕ}
use mathlib.Core.Bool.{Bool}
use mathlib.Core.List.{List, [], map, map-append}
use mathlib.Core.Option.{some}
use Rattle.rules.specs.Choice.{pick}
use Rattle.rules.specs.Messages.Forms.{Message, plain}
use Rattle.rules.specs.State.{Reading, State, with_read}
use Rattle.rules.specs.Turns.{Fate, Rule, still, writes, sends, tells, changes, behind, ◌then◌, only}
use Rattle.rules.specs.Calls.{map_text}
use Rattle.rules.proofs.Choice.{pick_both}
use Rattle.rules.proofs.Erasure.Maps.{map_reading, map_state, map_fate, map_turn}

-- The first rule, mapped, is the second. It is a record, so that a law can read both rules off its type.
pub record Erases {C D : Type 0} (f : C → D) (F : Rule C) (G : Rule D) : Type 0 where
  pub at : (s : State C) → map_turn f (F s) ≡ G (map_state f s)

module _ {C D : Type 0} {f : C → D} where
  -- at one state: for a rule that looks at the state, `record { at = λ s. erases_here s .. }`
  pub erases_here : (s : State C) {F : Rule C} {G : Rule D} → Erases f F G → map_turn f (F s) ≡ G (map_state f s)
  erases_here s p = p.at s

  pub erases_still : Erases f still still
  unfolding still
  erases_still = record { at = λ s. refl }

  pub erases_writes : {xs ys : List ℕ} → xs ≡ ys → Erases f (writes xs) (writes ys)
  unfolding writes
  erases_writes e = record { at = λ s. rw e }

  pub erases_sends : (m : Message C) {n : Message D} → map_text f m ≡ n → Erases f (sends m) (sends n)
  unfolding sends
  erases_sends m e = record { at = λ s. rw e }

  -- a message without text
  pub erases_plain : (kind : ℕ) {xs ys : List ℕ} → xs ≡ ys → Erases f (sends (plain kind xs)) (sends (plain kind ys))
  unfolding map_text
  erases_plain kind e = erases_sends (plain kind _) (rw e)

  pub erases_tells : (fs : List (Fate C)) {gs : List (Fate D)} → map (map_fate f) fs ≡ gs → Erases f (tells fs) (tells gs)
  unfolding tells
  erases_tells fs e = record { at = λ s. rw e }

  pub erases_changes : (g : State C → State C) (h : State D → State D) →
      ((s : State C) → map_state f (g s) ≡ h (map_state f s)) → Erases f (changes g) (changes h)
  unfolding changes
  erases_changes g h e = record { at = λ s i. record { bytes = []; messages = []; fates = []; state = e s i } }

  -- a read goes on, changed
  pub erases_reading : (r : Reading C) {q : Reading D} → map_reading f r ≡ q →
      Erases f (changes (with_read (some r))) (changes (with_read (some q)))
  erases_reading r e = erases_changes _ _ (λ s i. with_read (some (e i)) (map_state f s))

  pub erases_then : {F G : Rule C} {F' G' : Rule D} → Erases f F F' → Erases f G G' → Erases f (F then G) (F' then G')
  unfolding behind ◌then◌
  erases_then {F} p q = record { at = λ s. simp (map-append, ← (p.at s), ← (q.at (F s).state)) }

  -- by one test, or by two that are equal
  pub erases_pick : {t u : Bool} {F G : Rule C} {F' G' : Rule D} → t ≡ u → Erases f F F' → Erases f G G' →
      Erases f (pick t F G) (pick u F' G')
  erases_pick {t} e p q = rw (← e) (pick_both (Erases f) t p q)

  pub erases_only : {t u : Bool} {F : Rule C} {G : Rule D} → t ≡ u → Erases f F G → Erases f (only t F) (only u G)
  unfolding only
  erases_only e p = erases_pick e p erases_still
