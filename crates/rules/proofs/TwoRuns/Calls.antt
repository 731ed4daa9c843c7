-- Agreement of two runs: a call's answer.
use Prim.Native.Nat.{ℕ}
use mathlib.Core.Path.{◌≡◌, refl}
use mathlib.Core.Bool.{Bool, true, false}
use mathlib.Core.List.{List}
use Rattle.rules.specs.Choice.{first_row_answer, all_are}
use Rattle.rules.specs.Messages.Forms.{Message}
use Rattle.rules.specs.Messages.Codec.{Outcome, refused, sound}
use Rattle.rules.specs.State.{Characters, State, fresh}
use Rattle.rules.specs.Turns.{Fate, Rule, behind, ◌then◌}
use Rattle.rules.specs.Arrival.{arrives}
use Rattle.rules.specs.Steps.{steps}
use Rattle.rules.specs.Calls.{Event, key, step, tick, message, load, Call, Answer, refuses, does, received, answers_message, answers_load, keystroke, answers, answer}
use Rattle.rules.proofs.Choice.{pick_both, all_halves}
use Rattle.rules.proofs.TwoRuns.Twins.{Twin, is_both, code₁, code₂, first_chars, second_chars, Level}
use Rattle.rules.proofs.TwoRuns.Twins.{Spared, Agree, RulesAt, Rules}
use Rattle.rules.proofs.TwoRuns.Turns.{then_by, agrees_still}
use Rattle.rules.proofs.TwoRuns.Bands.{Passed, Initiated}
use Rattle.rules.proofs.TwoRuns.Arrival.{Unacted, arrives_agrees}
use Rattle.rules.proofs.TwoRuns.Steps.{steps_agrees, ticks_agrees}
use Rattle.rules.proofs.TwoRuns.Host.{obeys_agrees, loads_agrees}

module _ {changed : ℕ → Bool} where
  pub fresh_level : Level {changed = changed} fresh
  unfolding fresh all_are
  fresh_level = record { token = refl; pending_read = tt }

  keystroke_agrees : (c : Twin changed) (s : State (Twin changed)) → Unacted c s → Level s → RulesAt s (keystroke first_chars c) (keystroke second_chars c)
  unfolding keystroke
  keystroke_agrees c s unacted l =
      then_by (arrives first_chars c) (arrives second_chars c) (steps first_chars) (steps second_chars) s (arrives_agrees c s unacted l) λ x y.
      steps_agrees (arrives first_chars c s).state

-- What is supposed of a key's arrival: a test of each of its fates, in one run.
module _ {changed : ℕ → Bool} (arrival : (Twin changed → ℕ) → Fate (Twin changed) → Bool) where
  -- rule 2 then passes a changed key over
  abbrev pub Heeded : Type 0
  Heeded = (chars : Characters (Twin changed)) (c : Twin changed) (s : State (Twin changed)) → is_both c ≡ false → Initiated s →
      all_are (arrival chars.code) (arrives chars c s).fates ≡ true → Passed s (chars.code c)

  -- all that is supposed of a run's fates
  pub record Supposed (code : Twin changed → ℕ) (fs : List (Fate (Twin changed))) : Type 0 where
    pub arrived : all_are (arrival code) fs ≡ true
    pub spared : Spared code fs

  record SameAnswer (a b : Answer (Twin changed)) : Type 0 where
    number : a.number ≡ b.number
    turn : Supposed code₁ a.turn.fates → Supposed code₂ b.turn.fates → Agree a.turn b.turn

  -- from any level state
  abbrev SameAnswers : (State (Twin changed) → Answer (Twin changed)) → (State (Twin changed) → Answer (Twin changed)) → Type 0
  SameAnswers f g = (s : State (Twin changed)) → Level s → SameAnswer (f s) (g s)

  does_same : {f g : Rule (Twin changed)} → Rules f g → SameAnswers (does f) (does g)
  unfolding does
  does_same p s l = record { number = refl; turn = λ x y. (p s l).agreed x.spared y.spared }

  refuses_same : (n : ℕ) → SameAnswers (refuses n) (refuses n)
  unfolding refuses
  refuses_same n s l = record { number = refl; turn = λ x y. (agrees_still s l).agreed x.spared y.spared }

  answers_message_same : (o : Outcome (Message ℕ)) → SameAnswers (answers_message first_chars o) (answers_message second_chars o)
  unfolding answers_message
  answers_message_same (refused n) = refuses_same n
  answers_message_same (sound m) = does_same (obeys_agrees m)

  -- both runs load the same records
  answers_load_same : (own site : List ℕ) → SameAnswers (answers_load own site) (answers_load own site)
  unfolding answers_load first_row_answer
  answers_load_same own site = pick_both SameAnswers _ (refuses_same _) (does_same (loads_agrees own site))

  -- what a keystroke says became of keys begins with what its arrival says
  arrival_heeded : Heeded → (chars : Characters (Twin changed)) (c : Twin changed) (s : State (Twin changed)) → is_both c ≡ false → Initiated s →
      all_are (arrival chars.code) (keystroke chars c s).fates ≡ true → Passed s (chars.code c)
  unfolding keystroke ◌then◌ behind
  arrival_heeded heeded chars c s a b e =
      heeded chars c s a b (all_halves (arrival chars.code) (arrives chars c s).fates (steps chars (arrives chars c s).state).fates e).0

  keystroke_same : Heeded → (c : Twin changed) → SameAnswers (does (keystroke first_chars c)) (does (keystroke second_chars c))
  unfolding does
  keystroke_same heeded c s l =
      record {
        number = refl;
        turn = λ x y.
            (keystroke_agrees c s
            (record {
              first = λ a b. arrival_heeded heeded first_chars c s a b x.arrived;
              second = λ a b. arrival_heeded heeded second_chars c s a b y.arrived;
            })
            l).agreed x.spared y.spared;
      }

  answers_same : Heeded → (e : Event (Twin changed)) → SameAnswers (answers first_chars e) (answers second_chars e)
  unfolding answers
  answers_same heeded (key c) s l = keystroke_same heeded c s l
  answers_same heeded step s l = does_same steps_agrees s l
  answers_same heeded tick s l = does_same ticks_agrees s l
  answers_same heeded (message bytes) s l = answers_message_same (received s bytes) s l
  answers_same heeded (load own site) s l = answers_load_same own site s l

  pub agree_answer : Heeded → (c : Call (Twin changed)) (s : State (Twin changed)) → Level s →
      Supposed code₁ (answer first_chars c s).turn.fates →
      Supposed code₂ (answer second_chars c s).turn.fates →
      ((answer first_chars c s).number ≡ (answer second_chars c s).number) ×
      Agree (answer first_chars c s).turn (answer second_chars c s).turn
  unfolding answer first_row_answer
  agree_answer heeded c s l x y =
      let a = pick_both SameAnswers _ (refuses_same _) (answers_same heeded c.event) s l in
      (a.number, a.turn x y)
