-- Answers that agree look the same.
use Prim.Native.Nat.{ℕ}
use mathlib.Core.Path.{◌≡◌, refl, ap, ◌∙◌}
use mathlib.Core.Bool.{Bool, true}
use mathlib.Core.List.{List, [], ◌∷◌, ◌++◌, map, map-map}
use lib.Dec.{eqb}
use lib.ListN.{length, length-append, length-map}
use Rattle.rules.specs.Choice.{all_are, joined}
use Rattle.rules.specs.Messages.Forms.{Message, Tail, nothing, text, set_and_text, list, read_data, form_of}
use Rattle.rules.specs.Messages.Codec.{tail_bytes, bytes_as}
use Rattle.rules.specs.State.{codes}
use Rattle.rules.specs.Turns.{Turn}
use Rattle.rules.specs.Messages.Layout.{framed}
use Rattle.rules.specs.Calls.{Answer, map_text, sent_bytes, message_bytes}
use Rattle.rules.specs.TwoRuns.{blanked, seen}
use Rattle.rules.proofs.Choice.{pick_cases, all_cons}
use Rattle.rules.proofs.Erasure.Maps.{map_turn, map_answer}
use Rattle.rules.proofs.TwoRuns.Twins.{Twin, code₁, code₂, same_codes, is_guarded, Agree}

-- the message area of these messages, and what is seen of it
abbrev sent : {C : Type 0} → (C → ℕ) → List (Message C) → List ℕ
sent f ms = joined (map (λ m. framed (sent_bytes (map_text f m))) ms)

abbrev shown : List (Message ℕ) → List ℕ
shown ms = joined (map (λ m. framed (sent_bytes (blanked m))) ms)

-- Lengths: a message is as long whatever its characters are.
module _ {C : Type 0} (f g : C → ℕ) where
  tail_length : (t : Tail) (m : Message C) → length (tail_bytes t (map_text f m)) ≡ length (tail_bytes t (map_text g m))
  unfolding tail_bytes map_text
  tail_length nothing m = refl
  tail_length text m = simp length-map
  tail_length set_and_text m = simp (length-append, length-map)
  tail_length (list shape) m = refl

  sent_length : (m : Message C) → length (sent_bytes (map_text f m)) ≡ length (sent_bytes (map_text g m))
  unfolding sent_bytes bytes_as map_text
  sent_length m = simp (length-append, tail_length (form_of m.kind).tail m)

  framed-length : (m : Message C) → length (framed (sent_bytes (map_text f m))) ≡ length (framed (sent_bytes (map_text g m)))
  unfolding framed
  framed-length m = simp (length-append, sent_length m)

  all_length : (ms : List (Message C)) → length (sent f ms) ≡ length (sent g ms)
  unfolding joined
  all_length [] = refl
  all_length (m ∷ ms) = simp (length-append, framed-length m, all_length ms)

module _ {changed : ℕ → Bool} where
  -- DATA is blanked, and no other text has a changed key.

  blanked_same : (m : Message (Twin changed)) → is_guarded m ≡ true → blanked (map_text code₁ m) ≡ blanked (map_text code₂ m)
  unfolding blanked map_text is_guarded
  blanked_same m e =
      pick_cases (λ (x y : Message ℕ). x ≡ y) (eqb m.kind read_data)
      (λ q. simp map-map)
      (λ q. rw (same_codes m.text (rw q at e)))

  shown_same : (ms : List (Message (Twin changed))) → all_are is_guarded ms ≡ true →
      shown (map (map_text code₁) ms) ≡ shown (map (map_text code₂) ms)
  unfolding joined
  shown_same [] e = refl
  shown_same (m ∷ ms) e =
      let h = all_cons is_guarded m ms e in
      λ i. framed (sent_bytes (blanked_same m h.0 i)) ++ shown_same ms h.1 i

  text_twice : (f : Twin changed → ℕ) (m : Message (Twin changed)) → map_text (λ n. n) (map_text f m) ≡ map_text f m
  unfolding map_text
  text_twice f m = simp map-map

  count_same : (t u : Turn (Twin changed)) → t.messages ≡ u.messages →
      length (message_bytes codes (map_turn code₁ t)) ≡ length (message_bytes codes (map_turn code₂ u))
  unfolding message_bytes
  count_same t u e =
      simp (map-map, text_twice) (all_length code₁ code₂ t.messages ∙ ap (λ ms. length (sent code₂ ms)) e)

  pub seen_same : {a b : Answer (Twin changed)} → a.number ≡ b.number → Agree a.turn b.turn →
      seen (map_answer code₁ a) ≡ seen (map_answer code₂ b)
  unfolding seen
  seen_same {a} {b} n h =
      let messages = shown_same a.turn.messages h.guarded ∙ ap (λ ms. shown (map (map_text code₂) ms)) h.messages in
      let count = count_same a.turn b.turn h.messages in
      λ i.
      record {
        number = n i;
        terminal = h.bytes i;
        terminal_count = length (h.bytes i);
        messages = messages i;
        message_count = count i;
        dropped_count = (h.state i).terminal.dropped;
      }
