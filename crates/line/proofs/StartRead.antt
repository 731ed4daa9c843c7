-- The read that a Start Read opens: the pieces of its text, and where they stand in the line's.
use mathlib.Core.Path.{◌≡◌, refl, sym, ap, ◌∙◌}
use Prim.Native.Nat.{ℕ, ◌+◌, ◌-◌, ◌≤◌}
use native.Mathlib.Omega.{arith}
use mathlib.Core.Bool.{◌&&◌}
use lib.Dec.{eqb}
use mathlib.Core.List.{List, [], ◌++◌, append-nil}
use lib.ListN.{length, take, drop, length-take, length-drop, drop_of_length-le}
use lib.Seq.{take_all, sets, sets-eq, length-sets, take-take, take-append-le, take-append_seam, drop_at, length-take-le}
use Rattle.rules.specs.Numbers.{input_size}
use Rattle.rules.specs.Choice.{pick, bit}
use Rattle.rules.specs.Messages.Codec.{set_size}
use Rattle.rules.specs.State.{codes}
use Rattle.rules.specs.StartRead.Acceptance as rules
use Rattle.rules.specs.StartRead.Acceptance.{hides_lf}
use Rattle.rules.specs.StartRead.{chosen_set}
use Rattle.message.specs.declared.StartReadFields.{StartReadFields}
use Rattle.fields.specs.declared.Span.{Span}
use Rattle.fields.specs.Spans.{span_of}
use Rattle.message.specs.Found.{start_read_in}
use Rattle.sets.specs.declared.Set.{Set}
use Rattle.sets.specs.View.{set_of, CountedSet}
use Rattle.line.specs.declared.Terms.{Terms}
use Rattle.line.specs.declared.Line.{Line}
use Rattle.line.specs.View.{view, terms_of, input_of, prompt_of}
use Rattle.line.specs.StartRead.{Startable, terms_for, on_opened, Opens}

-- the set that a Start Read's bytes are: there are no more than a set can have
pub set_given : (s : List ℕ) (p : Span) {given r : List ℕ} → given ≡ span_of s p → length (span_of s p) ≤ set_size → r ≡ take set_size given →
    r ≡ span_of s p
set_given s p e short k = k ∙ ap (take set_size) e ∙ take_all set_size (span_of s p) short

-- The data in front of a text and the prompt at its end.
module _ (text typed shown : List ℕ) (full : length text ≡ input_size) (room : length shown + length typed ≤ input_size) where
  abbrev pub placed : List ℕ
  placed = sets (sets text 0 typed) (input_size - length shown) shown

  placed_size : length placed ≡ input_size
  placed_size = length-sets (sets text 0 typed) (input_size - length shown) shown ∙ length-sets text 0 typed ∙ full

  front : List ℕ
  front = take (input_size - length shown) (sets text 0 typed)

  placed_is : placed ≡ front ++ shown
  unfolding front
  placed_is =
      let at = input_size - length shown in
      let long : length (sets text 0 typed) ≡ input_size = length-sets text 0 typed ∙ full in
      let none : drop (at + length shown) (sets text 0 typed) ≡ [] = drop_of_length-le (sets text 0 typed) {i = at + length shown} (omega arith) in
      sets-eq shown (sets text 0 typed) at (omega arith)
      ∙ ap (λ r. take at (sets text 0 typed) ++ shown ++ r) none
      ∙ append-nil (take at (sets text 0 typed) ++ shown)

  front_length : length front ≡ input_size - length shown
  unfolding front
  front_length =
      let long : length (sets text 0 typed) ≡ input_size = length-sets text 0 typed ∙ full in
      length-take-le (input_size - length shown) (sets text 0 typed) (omega arith)

  pub placed_prompt : prompt_of (length shown) placed ≡ shown
  unfolding prompt_of
  placed_prompt = ap (drop (input_size - length shown)) placed_is ∙ drop_at front shown (input_size - length shown) front_length

  pub placed_input : take (length typed) placed ≡ typed
  unfolding front
  placed_input =
      let at = input_size - length shown in
      let n = length typed in
      let first : sets text 0 typed ≡ typed ++ drop (0 + n) text = sets-eq typed text 0 (omega arith) in
      ap (take n) placed_is
      ∙ take-append-le n front shown (let e = front_length in omega arith)
      ∙ take-take n at (sets text 0 typed) (omega arith)
      ∙ ap (take n) first
      ∙ take-append_seam typed (drop (0 + n) text)

-- The pieces of an accepted Start Read's text.
module _ {s : List ℕ} {f : StartReadFields} (k : Startable s f) where
  pub prompt_within : {text : List ℕ} → text ≡ span_of s f.text → f.end_of_prompt ≤ length text
  prompt_within e = let same = ap length e in omega arith

  prompt_short : length (rules.shown_prompt (start_read_in s f)) ≤ f.end_of_prompt
  unfolding rules.shown_prompt start_read_in
  prompt_short =
      let text = span_of s f.text in
      let hidden = bit (hides_lf (start_read_in s f)) in
      let taken = length-take f.end_of_prompt text in
      let left = length-drop hidden (take f.end_of_prompt text) in
      omega arith

  data_long : length (rules.data_behind (start_read_in s f)) ≡ f.end_of_data - f.end_of_prompt
  unfolding rules.data_behind start_read_in
  data_long = length-drop f.end_of_prompt (span_of s f.text) ∙ ap (λ n. n - f.end_of_prompt) k.text

  pub pieces_fit : {shown typed : List ℕ} → shown ≡ rules.shown_prompt (start_read_in s f) → typed ≡ rules.data_behind (start_read_in s f) → length shown + length typed ≤ input_size
  pieces_fit p d =
      let a = ap length p in
      let b = ap length d in
      let short = prompt_short in
      let long = data_long in
      omega arith

  -- the line with all that is fixed for the read
  module _ (l : Line) (full : length l.text ≡ input_size) (shown typed : List ℕ) (p : shown ≡ rules.shown_prompt (start_read_in s f)) (d : typed ≡ rules.data_behind (start_read_in s f))
      {terms : Terms} (t : terms ≡ terms_for f l.switches l.flow.terminal.screen (length shown))
      (chosen last : Set) (c : (set_of chosen ≡ chosen_set (set_of l.last_set) (start_read_in s f)) × CountedSet chosen)
      (z : (set_of last ≡ pick (eqb f.set_choice 1) (span_of s f.set) (set_of l.last_set)) × CountedSet last) where
    abbrev opened : Line
    opened = on_opened terms chosen (placed l.text typed shown full (pieces_fit p d)) last l

    opened_terms_lem : terms_of opened ≡ rules.opened_terms codes (start_read_in s f) (view l)
    unfolding rules.opened_terms start_read_in
    opened_terms_lem =
        let room = pieces_fit p d in
        let prompt = placed_prompt l.text typed shown full room ∙ p in
        ap (λ x. terms_of (on_opened x chosen (placed l.text typed shown full room) last l)) t
        ∙ (λ i. record {
          underflow = f.underflow;
          disables = f.disables;
          raises = rules.chosen f.raises l.switches.raising;
          recognises = rules.chosen f.escapes l.switches.recognising;
          echoes = eqb f.silent 0 && l.switches.echoing;
          terminator_echo = eqb f.terminator_echo 1;
          timed = eqb f.timed 1;
          timeout = f.timeout;
          set = c.0 i;
          max_length = f.max_length;
          end_of_prompt = f.end_of_prompt;
          prompt = prompt i;
          column = l.flow.terminal.screen.column;
          line = l.flow.terminal.screen.line;
        })

    opened_input : input_of (f.end_of_data - f.end_of_prompt) opened.text ≡ rules.data_behind (start_read_in s f)
    unfolding input_of
    opened_input =
        let n : f.end_of_data - f.end_of_prompt ≡ length typed = sym data_long ∙ ap length (sym d) in
        ap (λ i. take i opened.text) n ∙ placed_input l.text typed shown full (pieces_fit p d) ∙ d

    pub line_opens : Opens s f l opened
    line_opens =
        let size = ap (λ x. x.prompt_len) t in
        let room = pieces_fit p d in
        record {
          same = refl;
          terms = opened_terms_lem;
          input = opened_input;
          prompting = ap (λ x. x.auto_prompt) t;
          last = z.0;
          size = placed_size l.text typed shown full room;
          prompt = omega arith;
          set = c.1;
          last_set = z.1;
        }
