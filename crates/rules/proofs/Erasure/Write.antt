-- Erasure of a Write.
use mathlib.Core.Path.{refl}
use Prim.Native.Nat.{ℕ}
use mathlib.Core.List.{List}
use mathlib.Core.Option.{Option, none, some, map}
use Rattle.rules.specs.Messages.Forms.{Message}
use Rattle.rules.specs.State.{Characters, Reading}
use Rattle.rules.specs.Write.{stops_discarding, writes_own, ends_line, writes_output, completion, sends_completion, locks_by, redisplays_while, redisplays_if_asked, writes_out}
use Rattle.rules.proofs.Erasure.Maps.{Maps, map_reading}
use Rattle.rules.proofs.Erasure.Turns.{Erases, erases_here, erases_still, erases_writes, erases_plain, erases_changes, erases_then, erases_only}
use Rattle.rules.proofs.Erasure.Editing.{erase_redisplays}

module _ {C D : Type 0} {f : C → D} {cs : Characters C} {ds : Characters D} (m : Maps f cs ds) where
  erase_writes_own : (bytes : List ℕ) → Erases f (writes_own bytes) (writes_own bytes)
  unfolding writes_own
  erase_writes_own bytes = erases_then (record { at = λ s. erases_here s (erases_writes refl) }) (erases_changes _ _ (λ s. refl))

  erase_ends_line : (newline : ℕ) → Erases f (ends_line newline) (ends_line newline)
  unfolding ends_line
  erase_ends_line newline = erases_only refl (erases_then (erases_writes refl) (erases_changes _ _ (λ s. refl)))

  erase_writes_output : (n : Message ℕ) → Erases f (writes_output n) (writes_output n)
  unfolding writes_output
  erase_writes_output n = record { at = λ s. erases_here s (erases_only refl (erases_then (erase_writes_own _) (erase_ends_line _))) }

  erase_redisplays_while : (x : Option (Reading C)) → Erases f (redisplays_while cs x) (redisplays_while ds (map (map_reading f) x))
  unfolding redisplays_while
  erase_redisplays_while none = erases_still
  erase_redisplays_while (some r) = erase_redisplays m r

  erase_redisplays_if_asked : (lock : ℕ) → Erases f (redisplays_if_asked cs lock) (redisplays_if_asked ds lock)
  unfolding redisplays_if_asked
  erase_redisplays_if_asked lock = erases_only refl (record { at = λ s. erases_here s (erase_redisplays_while s.pending_read) })

  pub erase_writes_out : (n : Message ℕ) → Erases f (writes_out cs n) (writes_out ds n)
  unfolding writes_out stops_discarding sends_completion completion locks_by
  erase_writes_out n =
      record {
        at = λ s.
            erases_here s
            (erases_then (erases_only refl (erases_changes _ _ (λ s. refl)))
            (erases_then (erase_writes_output n)
            (erases_then (erases_only refl (record { at = λ s. erases_here s (erases_plain _ refl) }))
            (erases_then (erases_changes _ _ (λ s. refl))
            (erase_redisplays_if_asked _)))));
      }
