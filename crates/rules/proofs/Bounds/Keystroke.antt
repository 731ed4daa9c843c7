-- A keystroke within bounds: what its arrival writes and sends, and its step behind it.
use Prim.Native.Nat.{ℕ, ◌+◌, ◌*◌, ◌≤◌, ◌<◌}
use native.Mathlib.Omega.{arith}
use mathlib.Core.Bool.{Bool}
use mathlib.Core.List.{List}
use Rattle.rules.specs.Choice.{pick}
use Rattle.rules.specs.Numbers.{input_size}
use Rattle.rules.specs.State.{State, codes}
use Rattle.rules.specs.Turns.{Fate, Turn, Rule, tells, behind, ◌then◌}
use Rattle.rules.specs.Arrival.{rubbing_out, clear_rule, clears_by, clears_at_once, controlled, by_first_rule, arrives}
use Rattle.rules.specs.Steps.{steps}
use Rattle.rules.specs.Calls.{keystroke}
use Rattle.rules.specs.Bounds.{BoundedRead}
use Rattle.rules.proofs.Choice.{pick_case}
use Rattle.rules.proofs.Bounds.Turns.{Steady, Good, Fine, fine, tells_then, behind_good, roomier, arrival_bytes, arrival_area, step_bytes, answer_area}
use Rattle.rules.proofs.Bounds.Arrival.{stores_good, stores_quoted_good, quotes_good, flips_discard_good, clear_rule_good, sends_out_of_band_good, clears_at_once_good}
use Rattle.rules.proofs.Bounds.Arrival.{clear_rule_empties, clears_at_once_ends}
use Rattle.rules.proofs.Bounds.Steps.{steps_fine, steps_without_keys, steps_without_read}

-- an arrival that leaves room for its step
pub record LeavesRoom (t : Turn ℕ) : Type 0 where
  pub arrival : Fine t
  pub with_step : Fine (behind t (steps codes t.state))

adds_up : (t : Turn ℕ) (b₁ b₂ a₁ a₂ : ℕ) → b₁ + b₂ ≤ arrival_bytes + step_bytes → a₁ + a₂ ≤ arrival_area + answer_area →
    Good BoundedRead b₁ a₁ t → Good BoundedRead b₂ a₂ (steps codes t.state) → LeavesRoom t
adds_up t b₁ b₂ a₁ a₂ in_bytes in_area h k =
    record {
      arrival = fine b₁ a₁ (omega arith) (omega arith) h;
      with_step = fine (b₁ + b₂) (a₁ + a₂) in_bytes in_area (behind_good t (steps codes t.state) b₁ b₂ a₁ a₂ (omega arith) (omega arith) h k);
    }

-- behind most arrivals there is room for any step
little_leaves : {t : Turn ℕ} → Good BoundedRead arrival_bytes arrival_area t → LeavesRoom t
little_leaves {t} h = adds_up t arrival_bytes step_bytes arrival_area answer_area (omega arith) (omega arith) h (steps_fine h.state)

module _ {s : State ℕ} where
  told_leaves : (fs : List (Fate ℕ)) (f : Rule ℕ) → LeavesRoom (f s) → LeavesRoom ((tells fs then f) s)
  unfolding ◌then◌ behind tells
  told_leaves fs f h =
      let k = h.with_step in
      record {
        arrival = tells_then fs f h.arrival;
        with_step = record { state = k.state; terminal = k.terminal; messages = k.messages; fit = k.fit };
      }

  pick_leaves : (t : Bool) (f g : Rule ℕ) → LeavesRoom (f s) → LeavesRoom (g s) → LeavesRoom (pick t f g s)
  pick_leaves t f g h k = pick_case (λ (part : Rule ℕ). LeavesRoom (part s)) t (λ y. h) (λ n. k)

module _ {s : State ℕ} (h : Steady BoundedRead s) (c : ℕ) (byte : c < 256) where
  -- 24 may rub out a whole buffer, and leaves no key for its step to show
  clear_rule_leaves : LeavesRoom (clear_rule codes rubbing_out s)
  clear_rule_leaves =
      let cleared = clear_rule_good h rubbing_out in
      adds_up (clear_rule codes rubbing_out s) (24 * input_size) 0 0 answer_area (omega arith) (omega arith) cleared (steps_without_keys cleared.state (clear_rule_empties s))

  -- immediate clear sends Read Data, and leaves no read for its step to complete
  clears_at_once_leaves : LeavesRoom (clears_at_once codes c s)
  clears_at_once_leaves =
      let ended = clears_at_once_good h c byte in
      adds_up (clears_at_once codes c s) 0 0 (arrival_area + answer_area) 0 (omega arith) (omega arith) ended (steps_without_read ended.state (clears_at_once_ends c s))

  controlled_leaves : LeavesRoom (controlled codes c s)
  unfolding controlled clears_by
  controlled_leaves =
      pick_leaves _ _ _ (little_leaves (quotes_good c h))
      (pick_leaves _ _ _ (told_leaves _ _ clear_rule_leaves)
      (pick_leaves _ _ _ (little_leaves (roomier arrival_bytes 4 (omega arith) (omega arith) (flips_discard_good c h)))
      (little_leaves (stores_good c byte h _))))

  by_first_rule_leaves : LeavesRoom (by_first_rule codes c s)
  unfolding by_first_rule
  by_first_rule_leaves =
      pick_leaves _ _ _ (little_leaves (stores_quoted_good h c byte))
      (pick_leaves _ _ _ (little_leaves (sends_out_of_band_good h c byte))
      (pick_leaves _ _ _ clears_at_once_leaves
      (pick_leaves _ _ _ (little_leaves (stores_good c byte h _))
      controlled_leaves)))

  pub arrives_leaves : LeavesRoom (arrives codes c s)
  unfolding arrives
  arrives_leaves = told_leaves _ _ (pick_leaves _ _ _ by_first_rule_leaves (little_leaves (stores_good c byte h _)))

  pub keystroke_fine : Fine (keystroke codes c s)
  unfolding keystroke ◌then◌
  keystroke_fine = arrives_leaves.with_step
