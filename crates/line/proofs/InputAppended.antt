-- A read with more characters, and what is displayed of one.
use mathlib.Core.Path.{◌≡◌, refl, sym, ap, ap₂, ◌∙◌}
use Prim.Native.Nat.{ℕ, zero, suc, ◌+◌, ◌-◌, ◌≤◌}
use native.Mathlib.Omega.{arith}
use mathlib.Core.Bool.{Bool, true, false, ◌&&◌}
use mathlib.Core.List.{List, [], ◌∷◌, ◌++◌, map-id}
use lib.Dec.{ltb, eqb}
use lib.ListN.{length, take, drop, take-append-drop, length-append, length-drop}
use lib.Seq.{take-nil, drop-nil, length-take-le}
use mir.Val.{bool_byte}
use Rattle.std.proofs.lemmas.Slice.{drop-append-drop}
use borrow.Author.Tests.{ltb-true, ltb-false}
use Rattle.rules.specs.Choice.{pick, bit, is_empty}
use Rattle.rules.specs.Numbers.{input_size}
use Rattle.rules.specs.State as rules
use Rattle.rules.specs.State.{codes}
use Rattle.rules.specs.Editing.{end_of, hidden_count, displayed}
use Rattle.rules.specs.Steps.{appended}
use Rattle.rules.proofs.Choice.{pick_true, pick-false, halves}
use Rattle.line.specs.declared.Reading.{Reading}
use Rattle.line.specs.declared.Terms.{Terms}
use Rattle.line.specs.declared.Line.{Line}
use Rattle.line.specs.View.{input_of, prompt_of, reading_of}
use Rattle.line.specs.With.{lent}
use Rattle.line.specs.Bounded.{CountedReading}
use Rattle.line.proofs.TokenBytes.{empty_take}
use Rattle.line.specs.ReadChanges.{Appends, ShownFrom}

pub input-length : (n : ℕ) (text : List ℕ) → n ≤ length text → length (input_of n text) ≡ n
unfolding input_of
input-length n text h = length-take-le n text h

pub input_empty : (r : Reading) (text : List ℕ) → CountedReading r text → is_empty (input_of r.input_len text) ≡ eqb r.input_len 0
unfolding input_of
input_empty r text c = empty_take r.input_len text (omega arith)

pub end_is : (t : Terms) (text : List ℕ) (l : Line) (r : Reading) → CountedReading r text →
    t.end_of_prompt + r.input_len ≡ end_of (reading_of (lent t text l) r)
unfolding end_of
end_is t text l r c = ap (λ n. t.end_of_prompt + n) (sym (input-length r.input_len text (omega arith)))

-- a read with its text changed: the prompt and the input as they are in the new text
abbrev with_prompt_and_input : List ℕ → List ℕ → Reading → Line → rules.Reading ℕ
with_prompt_and_input prompt input r l =
    let e = reading_of l r in
    let t = e.terms in
    record {
      terms = record {
        underflow = t.underflow;
        disables = t.disables;
        raises = t.raises;
        recognises = t.recognises;
        echoes = t.echoes;
        terminator_echo = t.terminator_echo;
        timed = t.timed;
        timeout = t.timeout;
        set = t.set;
        max_length = t.max_length;
        end_of_prompt = t.end_of_prompt;
        prompt = prompt;
        column = t.column;
        line = t.line;
      };
      input = input;
      low_water = e.low_water;
      hidden_lf = e.hidden_lf;
      display_column = e.display_column;
      idle = e.idle;
    }

-- characters behind the others, as the program stores them
abbrev with_more : ℕ → Reading → Reading
with_more count r =
    record { input_len = r.input_len + count; low_water = r.low_water; hidden_lf = r.hidden_lf; display_column = r.display_column; idle = r.idle }

pub appends : (cs : List ℕ) (r : Reading) (text : List ℕ) {text' : List ℕ} → CountedReading r text → r.input_len + length cs ≤ input_size →
    take (r.input_len + length cs) text' ≡ take r.input_len text ++ cs → drop (r.input_len + length cs) text' ≡ drop (r.input_len + length cs) text →
    Appends cs r text (with_more (length cs) r) text'
unfolding appended input_of prompt_of
appends cs r text {text'} counted room front behind =
    let n = r.input_len in
    let kept = length-take-le n text (omega arith) in
    let long : length (take n text ++ cs) ≡ n + length cs = omega (arith, length-append (take n text) cs) in
    let whole : text' ≡ take n text ++ cs ++ drop (n + length cs) text = sym (take-append-drop (n + length cs) text') ∙ ap₂ (λ a b. a ++ b) front behind in
    record {
      same = λ t l fits.
          let far : n + length cs ≤ input_size - t.prompt_len = omega arith in
          let prompt : drop (input_size - t.prompt_len) text' ≡ drop (input_size - t.prompt_len) text =
          ap (drop (input_size - t.prompt_len)) whole ∙ drop-append-drop (n + length cs) text (take n text ++ cs) (input_size - t.prompt_len) far long in
          λ i. with_prompt_and_input (prompt i) (front i) r (lent t text l);
      count = refl;
      size =
          ap length whole
          ∙ omega (arith, length-append (take n text ++ cs) (drop (n + length cs) text), length-drop (n + length cs) text);
    }

drop-take : {A : Type 0} (k c : ℕ) (xs : List A) → drop k (take c xs) ≡ take (c - k) (drop k xs)
drop-take zero c xs = let e : c ≡ c - 0 = omega arith in ap (λ n. take n xs) e
drop-take (suc k) zero xs = let e : 0 ≡ 0 - suc k = omega arith in ap (λ n. take n (drop (suc k) xs)) e
drop-take (suc k) (suc c) [] = sym (take-nil (suc c - suc k))
drop-take (suc k) (suc c) (x ∷ xs) =
    let e : c - k ≡ suc c - suc k = omega arith in
    drop-take k c xs ∙ ap (λ n. take n (drop k xs)) e

pub hidden_stands : (hidden : Bool) (n : ℕ) → hidden && ltb 0 n ≡ true → 1 ≤ n
hidden_stands hidden n e = let some = ltb-true 0 n (halves hidden (ltb 0 n) e).1 in omega arith

-- The first characters: a hidden one stands in front of the others, or none does.
module _ (hidden : Bool) (n : ℕ) (xs : List ℕ) where
  pub hidden_before : hidden && ltb 0 n ≡ true → take (n - 1) (drop 1 xs) ≡ drop (bit hidden) (take n xs)
  unfolding bit
  hidden_before e =
      let h = halves hidden (ltb 0 n) e in
      sym (ap (λ k. drop k (take n xs)) (pick_true 1 0 h.0) ∙ drop-take 1 n xs)

  pub none_before : hidden && ltb 0 n ≡ false → take n xs ≡ drop (bit hidden) (take n xs)
  unfolding bit
  none_before e = by_flag hidden refl
    where
      by_flag : (b : Bool) → hidden ≡ b → take n xs ≡ drop (pick hidden 1 0) (take n xs)
      by_flag false f = ap (λ k. drop k (take n xs)) (sym (pick-false 1 0 f))
      by_flag true f =
          let empty : n ≤ 0 = ltb-false 0 n (rw f at e) in
          let none : n ≡ 0 = omega arith in
          let k = pick {A = ℕ} hidden 1 0 in
          ap (λ j. take j xs) none ∙ sym (ap (λ j. drop k (take j xs)) none ∙ drop-nil k)

module _ (r : Reading) where
  pub displayed_is : (l : Line) → displayed codes (reading_of l r) ≡ drop (bit r.hidden_lf) (take r.input_len l.text)
  unfolding displayed hidden_count input_of
  displayed_is l = ap (drop (bit r.hidden_lf)) (map-id (take r.input_len l.text))

  hidden_first : r.hidden_lf && ltb 0 r.input_len ≡ true → ShownFrom r 1
  hidden_first e =
      record {
        text = λ l. hidden_before r.hidden_lf r.input_len l.text e ∙ sym (displayed_is l);
        within = hidden_stands r.hidden_lf r.input_len e;
      }

  all_shown : r.hidden_lf && ltb 0 r.input_len ≡ false → ShownFrom r 0
  all_shown e =
      let all : r.input_len - 0 ≡ r.input_len = omega arith in
      record {
        text = λ l. ap (λ n. take n l.text) all ∙ none_before r.hidden_lf r.input_len l.text e ∙ sym (displayed_is l);
        within = omega arith;
      }

  pub shown_from : ShownFrom r (bool_byte (r.hidden_lf && ltb 0 r.input_len))
  shown_from = by_test _ refl
    where
      by_test : (b : Bool) → r.hidden_lf && ltb 0 r.input_len ≡ b → ShownFrom r (bool_byte b)
      by_test true e = hidden_first e
      by_test false e = all_shown e

-- a flag as the program makes a number of it
pub bit_is : (test : Bool) → bool_byte test ≡ bit test
unfolding bit pick
bit_is true = refl
bit_is false = refl
