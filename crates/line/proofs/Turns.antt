-- Rules done one after the other, and what a rule that writes does.
use mathlib.Core.Path.{◌≡◌, refl, sym, ap, ap₂, ◌∙◌, subst}
use Prim.Native.Nat.{ℕ}
use Rattle.std.specs.Borrow.{MutBor}
use mathlib.Core.List.{List, [], ◌∷◌, ◌++◌, map-append, append_assoc}
use mathlib.Core.Bool.{Bool, true, false}
use Rattle.rules.specs.Choice.{pick, joined}
use Rattle.rules.proofs.Choice.{pick_true, pick-false}
use Rattle.rules.specs.State.{State, codes, with_terminal, with_screen}
use Rattle.rules.specs.Turns.{Fate, Turn, Rule, still, writes, tells, changes, behind, ◌then◌, only}
use Rattle.rules.specs.Calls.{message_bytes}
use Rattle.rules.specs.Area.{puts, spot}
use Rattle.areas.specs.declared.Writer.{Writer}
use Rattle.areas.specs.Writes.{Writes}
use Rattle.screen.specs.declared.Screen.{Screen}
use Rattle.screen.specs.View.{Shows}
use lib.ListN.{length}
use Rattle.rules.proofs.Area.{puts_append}
use Rattle.line.specs.declared.Line.{Line}
use Rattle.line.specs.declared.Flow.{Flow}
use Rattle.line.specs.declared.Work.{Work}
use Rattle.line.specs.View.{view, terminal_of}
use Rattle.line.specs.With.{Has, AfterShown, writer_of, on_flow}
use Rattle.line.specs.Promise.{Progress, on, Does}
use Rattle.line.proofs.Answers.{under_way}

joined_append : (xs ys : List (List ℕ)) → joined (xs ++ ys) ≡ joined xs ++ joined ys
unfolding joined
joined_append [] ys = refl
joined_append (x ∷ xs) ys = ap (λ r. x ++ r) (joined_append xs ys) ∙ sym (append_assoc x (joined xs) (joined ys))

-- the messages of two turns, one behind the other
bytes_behind : (t u : Turn ℕ) → message_bytes codes (behind t u) ≡ message_bytes codes t ++ message_bytes codes u
unfolding message_bytes behind
bytes_behind t u = ap joined (map-append _ t.messages u.messages) ∙ joined_append _ _

module _ {f g : Rule ℕ} {w v r : Progress} {t₀ t₁ t₂ m₀ m₁ m₂ : List ℕ} where
  pub then_does : Does f w t₀ m₀ v t₁ m₁ → Does g v t₁ m₁ r t₂ m₂ → Does (f then g) w t₀ m₀ r t₂ m₂
  unfolding ◌then◌ behind
  then_does a b =
      let step = a.state in
      record {
        state = b.state ∙ ap (λ s. (g s).state) step;
        shows = b.shows ∙ ap₂ (λ s p. puts (g s).bytes p) step a.shows ∙ sym (puts_append (f (view w.line)).bytes _ _);
        sends =
            b.sends ∙ ap₂ (λ s p. puts (message_bytes codes (g s)) p) step a.sends
            ∙ sym (puts_append (message_bytes codes (f (view w.line))) _ _)
            ∙ ap (λ bs. puts bs (spot m₀ w.sent)) (sym (bytes_behind (f (view w.line)) (g (f (view w.line)).state)));
        terminal_length = b.terminal_length ∙ a.terminal_length;
        messages_length = b.messages_length ∙ a.messages_length;
      }

-- a rule done to what a call then has is done by the call
pub has_does : {p : Rule ℕ} {q : Progress} {t t' m m' : List ℕ} {f : Flow} {at sent : ℕ} {w : Work} → Has f at sent w → (l : Line) →
    Does p q t m (under_way (on_flow f l) at sent) t' m' → Does p q t m (on l w) t' m'
has_does {p} {q} {t} {t'} {m} {m'} h l d =
    subst (λ r. Does p q t m r t' m') (λ i. under_way (on_flow (sym h.flow i) l) (sym h.at i) (sym h.sent i)) d

-- what was shown, as a rule
module _ (w : Work) {bytes : List ℕ} {area : MutBor (List ℕ)} {new : Screen} {before after : Writer} {t : List ℕ}
    (e : before ≡ writer_of area w) (h : Shows bytes w.flow.terminal.screen new before after) (last : after.area.now ≡ t) where
  pub writes_does : {r : Work} → AfterShown after.at new w r → (l : Line) (m : List ℕ) → Does (writes bytes) (on l w) area.now m (on l r) t m
  unfolding writes message_bytes joined puts
  writes_does shown l m =
      let written : Writes bytes (writer_of area w) after = rw e at h.writes in
      has_does shown l
      (record {
        state = λ i. with_terminal (with_screen (h.screen i) (terminal_of w.flow.terminal)) (view (on_flow w.flow l));
        shows = ap (λ l. spot l after.at) (sym last) ∙ written.puts.area;
        sends = refl;
        terminal_length = ap length (sym last) ∙ written.puts.same;
        messages_length = refl;
      })

-- What a rule tells of fates does not show.
module _ {g : Rule ℕ} {w r : Progress} {t t' m m' : List ℕ} where
  pub told_does : (fs : List (Fate ℕ)) → Does g w t m r t' m' → Does (tells fs then g) w t m r t' m'
  unfolding ◌then◌ behind tells message_bytes
  told_does fs h =
      record {
        state = h.state;
        shows = h.shows;
        sends = h.sends;
        terminal_length = h.terminal_length;
        messages_length = h.messages_length;
      }

-- A choice of rules.
module _ {test : Bool} (f g : Rule ℕ) {w r : Progress} {t t' m m' : List ℕ} where
  pub first_does : test ≡ true → Does f w t m r t' m' → Does (pick test f g) w t m r t' m'
  first_does e h = rw (pick_true f g e) h

  pub second_does : test ≡ false → Does g w t m r t' m' → Does (pick test f g) w t m r t' m'
  second_does e h = rw (pick-false f g e) h

-- A rule that only changes the line.
module _ {w r : Progress} (t m : List ℕ) where
  pub changes_does : (f : State ℕ → State ℕ) → view r.line ≡ f (view w.line) → r.at ≡ w.at → r.sent ≡ w.sent →
      Does (changes f) w t m r t m
  unfolding changes message_bytes joined puts
  changes_does f e a s =
      record {
        state = e;
        shows = ap (spot t) a;
        sends = ap (spot m) s;
        terminal_length = refl;
        messages_length = refl;
      }

pub still_does : (w : Progress) (t m : List ℕ) → Does still w t m w t m
unfolding still message_bytes joined puts
still_does w t m =
    record { state = refl; shows = refl; sends = refl; terminal_length = refl; messages_length = refl }

module _ {test : Bool} (f : Rule ℕ) {w r : Progress} {t t' m m' : List ℕ} where
  pub only_does : test ≡ true → Does f w t m r t' m' → Does (only test f) w t m r t' m'
  unfolding only
  only_does e h = first_does f still e h

  pub not_does : test ≡ false → Does still w t m r t' m' → Does (only test f) w t m r t' m'
  unfolding only
  not_does e h = second_does f still e h
