-- Deleting from a pending read's input, and showing it again. 127, 23 and 21 delete, and so does the clear rule; 18 redisplays, and so does a Write with UU 3.
use Rattle.std.specs.Prelude.{ℕ, ◌+◌, ◌-◌, min, Bool, not, ◌&&◌, ◌||◌, List, [], ◌∷◌, map, reverse, ltb, length, take, drop}
use Rattle.std.proofs.Math.Option.{some}
use Rattle.rules.specs.Choice.{pick, within, bit}
use Rattle.rules.specs.Screen.{CR, LF, echo_all, marks_behind, rub_out}
use Rattle.rules.specs.State.{is_small, Characters, Reading, with_read, with_display_column}
use Rattle.rules.specs.Turns.{Fate, Rule, writes, tells, changes, here, ◌then◌}

-- keys that edit, with DEL
abbrev pub delete_word_key : ℕ
delete_word_key = 23

abbrev pub delete_line_key : ℕ
delete_line_key = 21

abbrev pub redisplay_key : ℕ
redisplay_key = 18

-- the digits and the capital letters of ASCII
abbrev pub first_digit : ℕ
first_digit = 48

abbrev pub last_digit : ℕ
last_digit = 57

abbrev pub is_digit : ℕ → Bool
is_digit n = within first_digit last_digit n

abbrev pub first_capital : ℕ
first_capital = 65

abbrev pub last_capital : ℕ
last_capital = 90

abbrev pub is_capital : ℕ → Bool
is_capital n = within first_capital last_capital n

-- word class: ASCII letter or digit, or neither
unfoldable pub is_word : ℕ → Bool
is_word n = is_digit n || is_capital n || is_small n

-- how many at the front pass a test
unfoldable pub leading : (ℕ → Bool) → List ℕ → ℕ
leading test [] = 0
leading test (n ∷ ns) = pick (test n) (1 + leading test ns) 0

-- how many characters 23 leaves: it deletes trailing non-word characters, then word characters
unfoldable pub left_by_delete_word : List ℕ → ℕ
left_by_delete_word ns =
    let last = reverse ns in
    let spaces = leading (λ n. not (is_word n)) last in
    length ns - (spaces + leading is_word (drop spaces last))

module _ {C : Type 0} where
  -- END-OF-PROMPT and what stands after it: the end of the buffer
  unfoldable pub end_of : Reading C → ℕ
  end_of r = r.terms.end_of_prompt + length r.input

  -- the LF that F hides is never displayed
  unfoldable pub hidden_count : Reading C → ℕ
  hidden_count r = bit r.hidden_lf

  -- the read with its first characters left; LOW-WATER falls to the new end if lower
  unfoldable pub shortened : ℕ → Reading C → Reading C
  shortened left r =
      record {
        terms = r.terms;
        input = take left r.input;
        low_water = min r.low_water (r.terms.end_of_prompt + left);
        hidden_lf = r.hidden_lf && ltb 0 left;
        display_column = r.display_column;
        idle = r.idle;
      }

  -- delete all but the first characters, without rubbing out; every one deleted meets a fate
  unfoldable pub deletes_without_rubbing : (C → Fate C) → ℕ → Reading C → Rule C
  deletes_without_rubbing fate left r = tells (map fate (drop left r.input)) then changes (with_read (some (shortened left r)))

module _ {C : Type 0} (chars : Characters C) where
  abbrev pub input_codes : Reading C → List ℕ
  input_codes r = map chars.code r.input

  unfoldable pub displayed : Reading C → List ℕ
  displayed r = drop (hidden_count r) (input_codes r)

  -- what deleting writes, in a read that echoes
  unfoldable pub rub_out_bytes : ℕ → Reading C → List ℕ
  rub_out_bytes left r = pick r.terms.echoes (rub_out (marks_behind (left - hidden_count r) r.display_column (displayed r))) []

  unfoldable pub deletes : (C → Fate C) → ℕ → Reading C → Rule C
  deletes fate left r = writes (rub_out_bytes left r) then deletes_without_rubbing fate left r

  -- if the read echoes, the echo of what follows the prompt; its display begins here
  unfoldable pub displays_data : Reading C → Rule C
  displays_data r =
      here (λ s.
      changes (with_read (some (with_display_column s.terminal.screen.column r))) then
      writes (pick r.terms.echoes (echo_all s.terminal.screen.column (displayed r)) []))

  -- the prompt raw, and what follows it
  unfoldable pub displays : Reading C → Rule C
  displays r = writes r.terms.prompt then displays_data r

  -- redisplay, as 18 does
  unfoldable pub redisplays : Reading C → Rule C
  redisplays r = writes (CR ∷ LF ∷ []) then displays r
