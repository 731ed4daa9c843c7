-- From a rule done to an answer kept, and from a refusal.
use mathlib.Core.Path.{◌≡◌, refl, sym, ap, ◌∙◌, subst}
use Prim.Native.Nat.{ℕ, ◌≤◌}
use native.Mathlib.Omega.{arith}
use mathlib.Core.Bool.{true, false, not, ◌&&◌, and-false}
use mathlib.Core.List.{List, []}
use lib.ListN.{length}
use Rattle.rules.specs.Choice.{joined}
use Rattle.rules.specs.Numbers as sizes
use Rattle.rules.specs.State.{State, codes}
use Rattle.rules.specs.Turns.{Rule, still}
use Rattle.rules.specs.Area.{puts, spot}
use Rattle.rules.specs.Calls as rules
use Rattle.rules.specs.Calls.{Event, Call, are_roomy, is_lent, answer, answers, does, refuses, message_bytes, area_after}
use Rattle.rules.specs.Bounds as bounds
use Rattle.rules.specs.Bounds.{is_byte_event, Within}
use Rattle.rules.proofs.Choice.{none_left, row_applies, row_passed, both, halves}
use Rattle.rules.proofs.Area.{puts_front}
use Rattle.rules.proofs.Bounds.Calls.{call_within}
use borrow.Author.Tests.{leb-true}
use Rattle.line.specs.declared.Line.{Line}
use Rattle.line.specs.declared.Work.{Work}
use Rattle.line.specs.declared.Answer.{Answer}
use Rattle.line.specs.View.{view}
use Rattle.line.specs.Bounded.{Counted, CountedFlow, Bounded}
use Rattle.line.specs.Promise.{Progress, Does}
use Rattle.line.specs.Answers.{Answers, ruled, refusal}

-- what a call that is done answers
abbrev pub done_answer : Progress → Answer
done_answer w = record { line = w.line; number = sizes.accepted; terminal = w.at; messages = w.sent }

-- a call on its way at these places in the areas, and its work
abbrev pub under_way : Line → ℕ → ℕ → Progress
under_way l at sent = record { line = l; at = at; sent = sent }

abbrev pub work_on : (l : Line) → CountedFlow l.flow → ℕ → ℕ → Work
work_on l counted at sent = record { flow = l.flow; at = at; sent = sent; counted = counted }

-- a call at its beginning
abbrev pub begun : Line → Progress
begun l = under_way l 0 0

-- areas, as the puts of a call's bytes leave them
at_front : (bs t t' : List ℕ) (n : ℕ) → length bs ≤ length t → spot t' n ≡ puts bs (spot t 0) → spot t' n ≡ spot (area_after bs t) (length bs)
at_front bs t t' n room e = e ∙ puts_front bs t room

module _ (e : Event ℕ) (l : Line) (t m : List ℕ) (b : Bounded l) where
  abbrev call : Call ℕ
  call = record { terminal = length t; messages = length m; event = e }

  module _ (p : Rule ℕ) (event : answers codes e (view l) ≡ does p (view l)) (byte : is_byte_event e ≡ true)
      (room : are_roomy (length t) (length m) ≡ true) where
    roomy : answer codes call (view l) ≡ does p (view l)
    unfolding answer
    roomy =
        ap (λ (f : State ℕ → rules.Answer ℕ). f (view l)) (row_passed refuses _ _ [] (ap (λ b. is_lent e && not b) room ∙ and-false (is_lent e)) ∙ none_left refuses _) ∙ event

    areas : (sizes.terminal_area ≤ length t) × (sizes.message_area ≤ length m)
    areas = let h = halves _ _ room in (leb-true _ _ h.0, leb-true _ _ h.1)

    within : Within (does p (view l))
    within = subst Within roomy (call_within call (view l) byte b.state)

    -- a rule that was done is the call's answer
    module _ (w : Progress) (t' m' : List ℕ) (d : Does p (begun l) t m w t' m') (k : Counted w.line) where
      shown_front : spot t' w.at ≡ spot (area_after (p (view l)).bytes t) (length (p (view l)).bytes)
      unfolding does
      shown_front = let h = within.terminal in let room = areas.0 in at_front (p (view l)).bytes t t' w.at (omega arith) d.shows

      sent_front : spot m' w.sent ≡ spot (area_after (message_bytes codes (p (view l))) m) (length (message_bytes codes (p (view l))))
      unfolding does
      sent_front = let h = within.messages in let room = areas.1 in at_front (message_bytes codes (p (view l))) m m' w.sent (omega arith) d.sends

      pub answered : Answers e l t m (done_answer w) t' m'
      unfolding does
      answered =
          let r = sym roomy in
          record {
            number = ap (λ a. a.number) r;
            state = d.state ∙ ap (λ a. a.turn.state) r;
            shown = ap (λ x. x.at) shown_front ∙ ap (λ a. length a.turn.bytes) r;
            sent = ap (λ x. x.at) sent_front ∙ ap (λ a. length (message_bytes codes a.turn)) r;
            terminal_area = ap (λ x. x.area) shown_front ∙ ap (λ a. area_after a.turn.bytes t) r;
            message_area = ap (λ x. x.area) sent_front ∙ ap (λ a. area_after (message_bytes codes a.turn) m) r;
            bounded = record { state = subst bounds.Bounded (sym d.state) within.state; counted = k };
            same = λ n. absurd (n refl);
          }

-- a refusal is the call's answer
pub refused : (e : Event ℕ) (l : Line) (t m : List ℕ) (n : ℕ) → Bounded l → ruled e l t m ≡ refuses n (view l) → {r : Answer} → r ≡ refusal n l →
    Answers e l t m r t m
unfolding refuses still message_bytes joined area_after
refused e l t m n b h {r} k =
    let s = sym h in
    record {
      number = ap (λ x. x.number) k ∙ ap (λ a. a.number) s;
      state = ap (λ x. view x.line) k ∙ ap (λ a. a.turn.state) s;
      shown = ap (λ x. x.terminal) k ∙ ap (λ a. length a.turn.bytes) s;
      sent = ap (λ x. x.messages) k ∙ ap (λ a. length (message_bytes codes a.turn)) s;
      terminal_area = ap (λ a. area_after a.turn.bytes t) s;
      message_area = ap (λ a. area_after (message_bytes codes a.turn) m) s;
      bounded = subst Bounded (ap (λ x. x.line) (sym k)) b;
      same = λ _. ap (λ x. x.line) k;
    }

-- row 1: an area too small
pub cramped : (e : Event ℕ) (l : Line) (t m : List ℕ) → is_lent e ≡ true → are_roomy (length t) (length m) ≡ false → ruled e l t m ≡ refuses sizes.small_area (view l)
unfolding answer
cramped e l t m lent h = ap (λ (f : State ℕ → rules.Answer ℕ). f (view l)) (row_applies refuses _ _ [] (both lent (ap not h)))
