-- Unread, at a line that is a variable, so that the proof of its method does not write a whole line out.
use mathlib.Core.Path.{◌≡◌, refl, sym, ap, ◌∙◌}
use Prim.Native.Nat.{ℕ}
use mathlib.Core.Bool.{Bool, true, false, ◌&&◌, ◌||◌}
use mathlib.Core.List.{List, [], ◌∷◌}
use mathlib.Core.Option.{some}
use Rattle.std.specs.Prelude.{Option, Some, None}
use lib.Dec.{eqb}
use lib.ListN.{length}
use Rattle.rules.specs.Numbers.{input_size}
use Rattle.rules.specs.Choice.{is_empty}
use Rattle.rules.specs.State as rules
use Rattle.rules.specs.State.{codes}
use Rattle.rules.specs.Messages.Forms.{Message, plain, unread}
use Rattle.rules.specs.ReadData.{by_unread, no_ending, completes, unreads_while, unreads}
use Rattle.line.specs.declared.Reading.{Reading}
use Rattle.line.specs.View.{view, keys_of, token_of, input_of, pending_of, reading_of}
use Rattle.line.specs.Bounded.{CountedFlow}
use Rattle.line.specs.Promise.{Progress, Does}
use Rattle.line.proofs.Turns.{still_does}
use Rattle.line.proofs.FlowChanges.{here_rule, here_only, here_not}
use Rattle.line.proofs.HostLaws.{nothing_typed}
use Rattle.line.proofs.PendingRead.{pending_within}

module _ (w : Progress) (condition : ℕ) where
  abbrev asked : Message ℕ
  asked = plain unread (condition ∷ [])

  -- whether a read is pending
  while : {p : Option Reading} → w.line.flow.pending ≡ p → unreads_while codes (view w.line).pending_read asked (view w.line) ≡ unreads_while codes (pending_of w.line p) asked (view w.line)
  while e = ap (λ p. unreads_while codes (pending_of w.line p) asked (view w.line)) e

  pub unreads_none : (t m : List ℕ) → w.line.flow.pending ≡ None → Does (unreads codes asked) w t m w t m
  unfolding unreads unreads_while
  unreads_none t m e = here_rule (while e) (still_does w t m)

  module _ {r : Reading} (pending : w.line.flow.pending ≡ Some r) (c : CountedFlow w.line.flow) (full : length w.line.text ≡ input_size) where
    abbrev reading : rules.Reading ℕ
    reading = reading_of w.line r

    abbrev nothing : Bool
    nothing = eqb w.line.flow.typed.keys_len 0 && eqb w.line.flow.typed.token_len 0 && eqb r.input_len 0

    same_test : nothing ≡
        is_empty (keys_of w.line.flow.typed.keys_len w.line.keys) && is_empty (token_of w.line.flow.typed) && is_empty (input_of r.input_len w.line.text)
    same_test = nothing_typed w.line.keys w.line.text w.line.flow c r (record { within = pending_within w.line.flow c pending; full = full })

    pub unreads_now : {u : Progress} {t t' m m' : List ℕ} → eqb condition 0 || nothing ≡ true → Does (completes codes by_unread no_ending reading) w t m u t' m' →
        Does (unreads codes asked) w t m u t' m'
    unfolding unreads unreads_while
    unreads_now e h =
        here_rule {f = unreads_while codes (some reading) asked} (while pending)
        (here_only (completes codes by_unread no_ending reading) refl (sym (ap (λ n. eqb condition 0 || n) same_test) ∙ e) h)

    pub unreads_not : (t m : List ℕ) → eqb condition 0 || nothing ≡ false → Does (unreads codes asked) w t m w t m
    unfolding unreads unreads_while
    unreads_not t m e =
        here_rule {f = unreads_while codes (some reading) asked} (while pending)
        (here_not (completes codes by_unread no_ending reading) t m refl (sym (ap (λ n. eqb condition 0 || n) same_test) ∙ e))
