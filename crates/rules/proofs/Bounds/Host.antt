-- What an accepted host message does, within bounds.
use mathlib.Core.Path.{◌≡◌, sym, ap, ◌∙◌}
use Prim.Native.Nat.{ℕ}
use native.Mathlib.Omega.{arith}
use mathlib.Core.Bool.{true}
use mathlib.Core.Option.{Option, none, some}
use lib.Dec.{eqb}
use borrow.Author.Tests.{eqb-true}
use Rattle.rules.specs.Numbers.{message_size}
use Rattle.rules.specs.Messages.Forms.{Message, write, start_read, read_characteristics, characteristics}
use Rattle.rules.specs.State.{Reading, State, codes}
use Rattle.rules.specs.ReadData.{by_unread, waiting_count, checks_input, unreads_while, unreads}
use Rattle.rules.specs.Host.{our_initiate, initiates, obeys}
use Rattle.rules.specs.Calls.{is_carried_by}
use Rattle.rules.specs.Bounds.{BoundedRead}
use Rattle.rules.proofs.Choice.{pick_true, pick-false}
use Rattle.rules.proofs.Numbers.{initiate_room, waiting_byte}
use Rattle.rules.proofs.Bounds.Sent.{Sent}
use Rattle.rules.proofs.Bounds.Turns.{Steady, Fine, fine, rehosted, still_good, sends_good, changes_then, pick_good, only_good}
use Rattle.rules.proofs.Bounds.Messages.{input_count_sent, initiate_sent}
use Rattle.rules.proofs.Bounds.ReadData.{bounded_answerable, completes_fine}
use Rattle.rules.proofs.Bounds.Arrival.{clear_rule_fine}
use Rattle.rules.proofs.Bounds.Received.{write-text, write_values, accepted_start_read}
use Rattle.rules.proofs.Bounds.StartRead.{starts_read_fine}
use Rattle.rules.proofs.Bounds.Write.{writes_out_fine}
use Rattle.rules.proofs.Bounds.Characteristics.{settings_fine}
use Rattle.rules.proofs.Bounds.Reports.{reports_fine}

module _ {s : State ℕ} (h : Steady BoundedRead s) where
  initiates_fine : Fine (initiates s)
  unfolding initiates
  initiates_fine =
      let room = initiate_room in
      changes_then _ _
      (sends_good our_initiate initiate_sent (omega arith)
      (rehosted h (record { table = h.host.table; attributes = h.host.attributes; set_length = h.host.set_length; set_bytes = h.host.set_bytes; largest_read = h.host.largest_read })))

  checks_input_fine : Fine (checks_input s)
  unfolding checks_input waiting_count
  checks_input_fine =
      let byte = waiting_byte in
      fine 0 6 (omega arith) (omega arith) (sends_good _ (input_count_sent _ (omega arith)) (omega arith) h)

  unreads_while_fine : (o : Option (Reading ℕ)) (m : Message ℕ) → BoundedRead o → Fine (unreads_while codes o m s)
  unfolding unreads_while
  unreads_while_fine none m b = still_good h
  unreads_while_fine (some r) m b =
      only_good _ _ (λ y. completes_fine by_unread 0 r (omega arith) (bounded_answerable r b) h) (λ n. h)

  -- by its type, each under what makes it carried
  pub obeys_fine : (m : Message ℕ) → Sent message_size m → is_carried_by s m ≡ true → Fine (obeys codes m s)
  unfolding obeys is_carried_by unreads
  obeys_fine m sent carried =
      pick_good _ _ _ (λ y. initiates_fine) λ n.
      pick_good _ _ _ (λ y. starts_read_fine m (accepted_start_read m (eqb-true m.kind start_read y) (sym (pick_true _ _ y) ∙ carried) sent.fit) h) λ no_start.
      pick_good _ _ _ (λ y. unreads_while_fine s.pending_read m h.pending_read) λ n.
      pick_good _ _ _ (λ y. clear_rule_fine h) λ n.
      pick_good _ _ _ (λ y. writes_out_fine h m (write-text m (eqb-true m.kind write y) sent) (write_values m (eqb-true m.kind write y) sent.fit)) λ no_write.
      pick_good _ _ _
      (λ y.
      let e = eqb-true m.kind read_characteristics y in
      let no_settings = ap (λ k. eqb k characteristics) e in
      let asked = sym (pick-false _ _ no_start ∙ pick-false _ _ no_write ∙ pick-false _ _ no_settings ∙ pick_true _ _ y) ∙ carried in
      reports_fine m e sent.fit asked h) λ n.
      pick_good _ _ _ (λ y. settings_fine m h) λ n.
      checks_input_fine
