-- Write: its own bytes part by part, what the mark leaves of them, and the redisplay.
use mathlib.Core.Path.{◌≡◌, refl, sym, ap, ◌∙◌}
use Prim.Native.Nat.{ℕ, zero, suc, ◌+◌, ◌-◌, ◌≤◌, ◌<◌}
use native.Mathlib.Omega.{arith}
use mathlib.Core.Bool.{Bool, true, false, not, ◌&&◌, ◌||◌, and-false}
use mathlib.Core.List.{List, [], ◌∷◌, ◌++◌, append-nil}
use Rattle.std.specs.Prelude.{Some, None}
use lib.Dec.{eqb}
use lib.ListN.{length, get_or, take, drop, replicate}
use borrow.Author.Tests.{eq-eqb, ne_eqb}
use Rattle.rules.specs.Choice.{pick, is_empty, joined}
use Rattle.rules.specs.Area.{puts}
use Rattle.rules.specs.Messages.Layout.{byte_values}
use Rattle.rules.specs.Messages.Fields.{redisplay_after, new_lines, character}
use Rattle.rules.specs.Screen.{CR, LF, shown_all}
use Rattle.rules.specs.State.{State, codes, with_terminal, with_screen, with_skip_linefeed}
use Rattle.rules.specs.Turns.{writes, changes, behind, ◌then◌}
use Rattle.rules.specs.Editing.{redisplays}
use Rattle.rules.specs.Write.{affix_bytes, unskipped, writes_own, redisplays_while, redisplays_if_asked}
use Rattle.rules.specs.Calls.{message_bytes}
use Rattle.rules.proofs.Choice.{pick_true, pick-false, pick_both}
use Rattle.screen.proofs.Echoes.{shown_all_append}
use Rattle.line.specs.declared.Reading.{Reading}
use Rattle.line.specs.View.{reading_of}
use Rattle.line.specs.Promise.{Progress, Does}
use Rattle.line.proofs.Turns.{then_does, still_does, only_does, not_does}
use Rattle.line.proofs.FlowChanges.{here_rule}
use Rattle.line.proofs.ArrivalLaws.{pending_does, idle_does}

-- Whether there is a byte in either of two texts.
pub some_append : (xs ys : List ℕ) → not (is_empty xs) || not (is_empty ys) ≡ not (is_empty (xs ++ ys))
unfolding is_empty
some_append [] ys = refl
some_append (x ∷ xs) ys = refl

-- What the skip-linefeed mark leaves out.
module _ (skips : Bool) where
  pub skips_none : (bs : List ℕ) → length bs ≡ 0 → bs ≡ unskipped skips bs
  unfolding unskipped
  skips_none [] e = refl
  skips_none (b ∷ bs) e = absurd (omega arith)

  pub skips_first : (bs : List ℕ) → (length bs ≡ 0 → ⊥) → skips && eqb (get_or bs 0 0) LF ≡ true → drop 1 bs ≡ unskipped skips bs
  unfolding unskipped
  skips_first [] some e = absurd (some refl)
  skips_first (b ∷ bs) some e = sym (pick_true bs (b ∷ bs) e)

  pub skips_not : (bs : List ℕ) → (length bs ≡ 0 → ⊥) → skips && eqb (get_or bs 0 0) LF ≡ false → bs ≡ unskipped skips bs
  unfolding unskipped
  skips_not [] some e = absurd (some refl)
  skips_not (b ∷ bs) some e = sym (pick-false bs (b ∷ bs) e)

  unskipped_append : (b : ℕ) (bs cs : List ℕ) → unskipped skips (b ∷ bs ++ cs) ≡ unskipped skips (b ∷ bs) ++ cs
  unfolding unskipped
  unskipped_append b bs cs = pick_both (λ (all : List ℕ) front. all ≡ front ++ cs) (skips && eqb b LF) refl refl

unskipped_all : (bs : List ℕ) → unskipped false bs ≡ bs
unfolding unskipped pick
unskipped_all [] = refl
unskipped_all (b ∷ bs) = refl

-- Own bytes in two parts: the mark has fallen behind the first byte.
own_append : (xs ys : List ℕ) (s : State ℕ) → writes_own (xs ++ ys) s ≡ (writes_own xs then writes_own ys) s
unfolding writes_own ◌then◌ behind writes changes unskipped is_empty shown_all
own_append [] ys s = refl
own_append (x ∷ xs) ys s =
    let front = unskipped s.terminal.skip_linefeed (x ∷ xs) in
    let all = unskipped_append s.terminal.skip_linefeed x xs ys ∙ ap (λ bs. front ++ bs) (sym (unskipped_all ys)) in
    let screen = ap (shown_all s.terminal.screen) all ∙ shown_all_append front (unskipped false ys) s.terminal.screen in
    let bytes : unskipped s.terminal.skip_linefeed (x ∷ xs ++ ys) ++ [] ≡ front ++ [] ++ (unskipped false ys ++ []) = simp (append-nil, all) in
    let mark = sym (and-false (is_empty ys)) in λ i.
    record {
      bytes = bytes i;
      messages = [];
      fates = [];
      state = with_terminal (with_skip_linefeed (mark i) (with_screen (screen i) s.terminal)) s;
    }

module _ (xs ys : List ℕ) {w v r : Progress} {t₀ t₁ t₂ m₀ m₁ m₂ : List ℕ} where
  pub own_does : Does (writes_own xs) w t₀ m₀ v t₁ m₁ → Does (writes_own ys) v t₁ m₁ r t₂ m₂ → Does (writes_own (xs ++ ys)) w t₀ m₀ r t₂ m₂
  own_does a b = here_rule (own_append xs ys _) (then_does a b)

pub none_own_does : (w : Progress) (t m : List ℕ) → Does (writes_own []) w t m w t m
unfolding writes_own ◌then◌ behind writes changes unskipped is_empty shown_all message_bytes joined puts
none_own_does w t m = record { state = refl; shows = refl; sends = refl; terminal_length = refl; messages_length = refl }

-- A prefix or a postfix, by its code.
take-replicate : (n m a : ℕ) → n ≤ m → take n (replicate m a) ≡ replicate n a
take-replicate zero m a h = refl
take-replicate (suc n) zero a h = absurd (omega arith)
take-replicate (suc n) (suc m) a h = ap (λ r. a ∷ r) (take-replicate n m a (omega arith))

-- the longest of lines: as many LF as a byte can say
abbrev pub longest_lines : List ℕ
longest_lines = CR ∷ replicate (byte_values - 1) LF

module _ (code value : ℕ) where
  pub affix_lines : value < byte_values → code ≡ new_lines → take (value + 1) longest_lines ≡ affix_bytes code value
  unfolding affix_bytes
  affix_lines byte e =
      let next : value + 1 ≡ suc value = omega arith in
      ap (λ n. take n longest_lines) next
      ∙ ap (λ r. CR ∷ r) (take-replicate value (byte_values - 1) LF (omega arith))
      ∙ sym (pick_true _ _ (eq-eqb code new_lines e))

  module _ (no_lines : code ≡ new_lines → ⊥) where
    pub affix_character : code ≡ character → value ∷ [] ≡ affix_bytes code value
    unfolding affix_bytes
    affix_character e = sym (pick-false _ _ (ne_eqb code new_lines no_lines) ∙ pick_true _ _ (eq-eqb code character e))

    pub affix_none : (code ≡ character → ⊥) → [] ≡ affix_bytes code value
    unfolding affix_bytes
    affix_none no_character = sym (pick-false _ _ (ne_eqb code new_lines no_lines) ∙ pick-false _ _ (ne_eqb code character no_character))

  affix_some_by : (lines single : Bool) → lines || single ≡ not (is_empty (pick lines (CR ∷ replicate value LF) (pick single (value ∷ []) [])))
  unfolding pick is_empty
  affix_some_by true single = refl
  affix_some_by false true = refl
  affix_some_by false false = refl

  pub affix_some : eqb code new_lines || eqb code character ≡ not (is_empty (affix_bytes code value))
  unfolding affix_bytes
  affix_some = affix_some_by (eqb code new_lines) (eqb code character)

-- The redisplay, of a pending read and with UU 3.
module _ (w : Progress) (lock : ℕ) where
  module _ (asked : eqb lock redisplay_after ≡ true) where
    pub redisplays_now : {r : Reading} {u : Progress} {t t' m m' : List ℕ} → w.line.flow.pending ≡ Some r →
        Does (redisplays codes (reading_of w.line r)) w t m u t' m' → Does (redisplays_if_asked codes lock) w t m u t' m'
    unfolding redisplays_if_asked redisplays_while
    redisplays_now e h = only_does _ asked (here_rule refl (pending_does (redisplays_while codes) w.line e h))

    pub redisplays_none : (t m : List ℕ) → w.line.flow.pending ≡ None → Does (redisplays_if_asked codes lock) w t m w t m
    unfolding redisplays_if_asked redisplays_while
    redisplays_none t m e = only_does _ asked (here_rule refl (idle_does (redisplays_while codes) w.line e (still_does w t m)))

  pub redisplays_not : (t m : List ℕ) → eqb lock redisplay_after ≡ false → Does (redisplays_if_asked codes lock) w t m w t m
  unfolding redisplays_if_asked
  redisplays_not t m e = not_does _ e (still_does w t m)
