-- Arrival rule 2 passes a changed key over: read off what the call says became of it, in one run.
use Prim.Native.Nat.{ℕ}
use mathlib.Core.Path.{◌≡◌, refl}
use mathlib.Core.Bool.{Bool, true, false, ◌||◌, false≢true}
use lib.ListN.{get_or}
use borrow.Author.Tests.{not-true}
use Rattle.rules.specs.Choice.{all_are}
use Rattle.rules.specs.State.{Characters, State}
use Rattle.rules.specs.Turns.{Fate, Turn, arrived, control, out_of_band, tells, behind, ◌then◌}
use Rattle.rules.specs.TwoRuns.{fate_test, is_out_of_band, in_band, unacted}
use Rattle.rules.specs.Arrival.{is_hello, is_immediate_clear, sends_out_of_band, clears_at_once, by_first_rule, arrives}
use Rattle.rules.proofs.Choice.{pick_true, pick-false, or_none, all_cons}

abbrev pub attribute_at : {C : Type 0} → State C → ℕ → ℕ
attribute_at s n = get_or s.host.attributes n 0

-- rule 2 acts on no key of this code
pub record Passed {C : Type 0} (s : State C) (n : ℕ) : Type 0 where
  pub hello : is_hello (attribute_at s n) ≡ false
  pub clear : is_immediate_clear (attribute_at s n) ≡ false

-- rule 2 is come to: after Initiate, and the key is not quoted
abbrev pub Initiated : {C : Type 0} → State C → Type 0
Initiated s = (s.host.initiated ≡ true) × (s.terminal.quoting ≡ false)

-- all that a turn says became of keys passes a test
abbrev Passes : {C : Type 0} → (Fate C → Bool) → Turn C → Type 0
Passes test t = all_are test t.fates ≡ true

module _ {C : Type 0} (chars : Characters C) (changed : C → Bool) (c : C) (s : State C) (is_changed : changed c ≡ true) where
  -- its attribute is told with its arrival
  pub in_band_passed : Passes (in_band chars.code changed) (arrives chars c s) → Passed s (chars.code c)
  unfolding arrives ◌then◌ behind tells in_band fate_test
  in_band_passed e =
      let flag = is_hello (attribute_at s (chars.code c)) || is_immediate_clear (attribute_at s (chars.code c)) in
      let h = (all_cons (in_band chars.code changed) (arrived c flag) _ e).0 in
      let k = or_none _ _ (not-true flag (rw is_changed at h)) in
      record { hello = k.0; clear = k.1 }

  -- rule 2 begins by telling that it acts
  acted : (test : Fate C → Bool) → Passes test (sends_out_of_band chars c s) → test (control out_of_band c) ≡ true
  unfolding sends_out_of_band ◌then◌ behind tells
  acted test e = (all_cons test (control out_of_band c) _ e).0

  acted_clearing : (test : Fate C → Bool) → Passes test (clears_at_once chars c s) → test (control out_of_band c) ≡ true
  unfolding clears_at_once sends_out_of_band ◌then◌ behind tells
  acted_clearing test e = (all_cons test (control out_of_band c) _ e).0

  never_acted : unacted chars.code changed (control out_of_band c) ≡ true → ⊥
  unfolding unacted fate_test is_out_of_band
  never_acted e = false≢true (rw is_changed at e)

  by_first_rule_by : (test : Fate C → Bool) → Initiated s → Passes test (arrives chars c s) → Passes test (by_first_rule chars c s)
  unfolding arrives ◌then◌ behind tells
  by_first_rule_by test b e = rw (pick_true _ _ b.0) at (all_cons test _ _ e).1

  pub unacted_passed : Initiated s → Passes (unacted chars.code changed) (arrives chars c s) → Passed s (chars.code c)
  unfolding by_first_rule
  unacted_passed b e =
      let test = unacted chars.code changed in
      let h = rw (pick-false _ _ b.1) at (by_first_rule_by test b e) in
      let no_hello = fails (is_hello (attribute_at s (chars.code c))) (λ q. never_acted (acted test (rw (pick_true _ _ q) at h))) in
      record {
        hello = no_hello;
        clear =
            fails (is_immediate_clear (attribute_at s (chars.code c))) (λ q.
            never_acted (acted_clearing test (rw (pick-false _ _ no_hello, pick_true _ _ q) at h)));
      }
    where
      fails : (t : Bool) → (t ≡ true → ⊥) → t ≡ false
      fails true no_t = absurd (no_t refl)
      fails false no_t = refl
