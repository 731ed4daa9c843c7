-- Agreement of two runs, a law for each way that the rules are put together.
use Prim.Native.Nat.{ℕ}
use mathlib.Core.Path.{◌≡◌, refl, ap, subst}
use mathlib.Core.Bool.{Bool, true, false}
use mathlib.Core.List.{List, [], ◌∷◌, ◌++◌}
use mathlib.Core.Option.{Option}
use lib.Dec.{eqb}
use Rattle.rules.specs.Choice.{pick, all_are}
use Rattle.rules.specs.Messages.Forms.{Message}
use Rattle.rules.specs.State.{Host, Terminal, Key, Reading, State, with_host, with_terminal, with_typed, with_read}
use Rattle.rules.specs.Turns.{Turn, Fate, Rule, still, writes, sends, tells, changes, behind, ◌then◌, only}
use Rattle.rules.specs.TwoRuns.{is_printing}
use Rattle.rules.proofs.Choice.{pick_both, all_more, all_behind, all_halves}
use Rattle.rules.proofs.TwoRuns.Twins.{Twin, both, apart, is_both, code₁, code₂, Settled, settled_code}
use Rattle.rules.proofs.TwoRuns.Twins.{LevelRead, Level, spared, Spared, is_guarded, Agrees, RulesAt, Rules, Agreeing}

module _ {changed : ℕ → Bool} where
  -- One rule after another.

  -- at one state; the second may use that the first one's fates were spared
  pub then_by : (f f' g g' : Rule (Twin changed)) (s : State (Twin changed)) → RulesAt s f f' →
      (Spared code₁ (f s).fates → Spared code₂ (f' s).fates → Level (f s).state → RulesAt (f s).state g g') →
      RulesAt s (f then g) (f' then g')
  unfolding ◌then◌ behind
  then_by f f' g g' s p q =
      record {
        agreed = λ x y.
            let a = all_halves (spared code₁) (f s).fates (g (f s).state).fates x in
            let b = all_halves (spared code₂) (f' s).fates (g' (f' s).state).fates y in
            let h = p.agreed a.0 b.0 in
            let next = q a.0 b.0 h.level in
            let k = (subst (λ u. Agrees (g (f s).state) (g' u)) h.state next).agreed a.1 b.1 in
            record {
              bytes = λ i. h.bytes i ++ k.bytes i;
              messages = λ i. h.messages i ++ k.messages i;
              guarded = all_behind is_guarded (f s).messages (g (f s).state).messages h.guarded k.guarded;
              state = k.state;
              level = k.level;
            };
      }

  pub agrees_then : {f f' g g' : Rule (Twin changed)} → Rules f f' → Rules g g' → Rules (f then g) (f' then g')
  agrees_then {f} {f'} {g} {g'} p q s l = then_by f f' g g' s (p s l) (λ x y. q (f s).state)

  -- turns that are equal but for their fates
  agrees_turns : {t u : Turn (Twin changed)} → t.bytes ≡ u.bytes → t.messages ≡ u.messages →
      all_are is_guarded t.messages ≡ true → t.state ≡ u.state → Level t.state → Agrees t u
  agrees_turns b m g s l = record { agreed = λ x y. record { bytes = b; messages = m; guarded = g; state = s; level = l } }

  -- Fates are not compared, and what follows may use that they were spared: at one state, and at any.
  pub told_at : (fs fs' : List (Fate (Twin changed))) (g g' : Rule (Twin changed)) {s : State (Twin changed)} → Level s →
      (Spared code₁ fs → Spared code₂ fs' → RulesAt s g g') → RulesAt s (tells fs then g) (tells fs' then g')
  unfolding tells all_are
  told_at fs fs' g g' {s} l q =
      then_by (tells fs) (tells fs') g g' s (agrees_turns refl refl refl refl l) (λ x y k. q x y)

  pub told : (fs fs' : List (Fate (Twin changed))) {g g' : Rule (Twin changed)} →
      (Spared code₁ fs → Spared code₂ fs' → Rules g g') → Rules (tells fs then g) (tells fs' then g')
  told fs fs' {g} {g'} q s l = told_at fs fs' g g' l (λ x y. q x y s l)

  pub agrees_still : Rules {changed = changed} still still
  unfolding still all_are
  agrees_still s l = agrees_turns refl refl refl refl l

  pub agrees_sends : {m m' : Message (Twin changed)} → m ≡ m' → is_guarded m ≡ true → Rules (sends m) (sends m')
  unfolding sends all_are
  agrees_sends {m} e g s l = agrees_turns refl (ap (λ m. m ∷ []) e) (all_more is_guarded m [] g refl) refl l

  -- Changes, which keep the state level.

  pub level_typed : {keys : List (Key (Twin changed))} {token : List (Twin changed)} {s : State (Twin changed)} →
      all_are is_both token ≡ true → Level s → Level (with_typed keys token s)
  level_typed e l = record { token = e; pending_read = l.pending_read }

  pub level_emptied : {keys : List (Key (Twin changed))} {s : State (Twin changed)} → Level s → Level (with_typed keys [] s)
  unfolding all_are
  level_emptied = level_typed refl

  pub level_read : {o : Option (Reading (Twin changed))} {s : State (Twin changed)} → LevelRead o → Level s →
      Level (with_read o s)
  level_read h l = record { token = l.token; pending_read = h }

  pub agrees_changes : {f : State (Twin changed) → State (Twin changed)} →
      ((s : State (Twin changed)) → Level s → Level (f s)) → Rules (changes f) (changes f)
  unfolding changes all_are
  agrees_changes keeps s l = agrees_turns refl refl refl refl (keeps s l)

  -- what is set of the host or the terminal says nothing of typed characters
  pub agrees_host : (f : State (Twin changed) → Host) → Agreeing (λ chars. changes (λ s. with_host (f s) s))
  agrees_host f = agrees_changes (λ s l. record { token = l.token; pending_read = l.pending_read })

  pub agrees_terminal : (f : State (Twin changed) → Terminal) → Agreeing (λ chars. changes (λ s. with_terminal (f s) s))
  agrees_terminal f = agrees_changes (λ s l. record { token = l.token; pending_read = l.pending_read })

  pub agrees_writes : {bs bs' : List ℕ} → bs ≡ bs' → Rules {changed = changed} (writes bs) (writes bs')
  unfolding writes all_are
  agrees_writes e s l = rw (← e) (agrees_turns refl refl refl refl (record { token = l.token; pending_read = l.pending_read }))

  -- Choices.

  pub agrees_pick : {t t' : Bool} {f f' g g' : Rule (Twin changed)} → t ≡ t' → Rules f f' → Rules g g' →
      Rules (pick t f g) (pick t' f' g')
  agrees_pick {t} e p q = rw (← e) (pick_both Rules t p q)

  pub agrees_only : {t t' : Bool} {f f' : Rule (Twin changed)} → t ≡ t' → Rules f f' → Rules (only t f) (only t' f')
  unfolding only
  agrees_only e p = agrees_pick e p agrees_still

  -- neither run comes to the first side
  agrees_second : {t t' : Bool} (f f' : Rule (Twin changed)) {g g' : Rule (Twin changed)} → t ≡ false → t' ≡ false → Rules g g' →
      Rules (pick t f g) (pick t' f' g')
  unfolding pick
  agrees_second f f' e e' p = rw (e, e') p

  -- a choice by a test of a cell's code that a changed key fails by either of its codes
  pub by_test : (test : ℕ → Bool) (c : Twin changed) {f f' g g' : Rule (Twin changed)} → Settled test c →
      (is_both c ≡ true → Rules f f') → Rules g g' → Rules (pick (test (code₁ c)) f g) (pick (test (code₂ c)) f' g')
  by_test test (both p) settled first second = agrees_pick refl (first refl) second
  by_test test (apart place m n d h) {f} {f'} settled first second =
      agrees_second f f' (settled.first refl) (settled.second refl) second

  pub by_code : (k : ℕ) → is_printing k ≡ false → (c : Twin changed) {f f' g g' : Rule (Twin changed)} →
      (is_both c ≡ true → Rules f f') → Rules g g' → Rules (pick (eqb (code₁ c) k) f g) (pick (eqb (code₂ c) k) f' g')
  by_code k e c = by_test (λ n. eqb n k) c (settled_code k e c)
