-- Rules that change the flow: nothing written, another read or token, no read.
use mathlib.Core.Path.{◌≡◌, refl, sym, ap, ◌∙◌}
use Prim.Native.Nat.{ℕ, ◌-◌, ◌<◌}
use native.Mathlib.Omega.{arith}
use mathlib.Core.Bool.{Bool, true, false, not, ◌||◌}
use mathlib.Core.List.{List, [], ◌∷◌, ◌++◌}
use mathlib.Core.Option.{none, some}
use lib.ListN.{length, take}
use Rattle.std.specs.Prelude.{None}
use Rattle.rules.specs.Choice.{pick, bit, is_empty, joined}
use Rattle.rules.specs.Numbers.{token_size}
use Rattle.rules.specs.Area.{puts, spot}
use Rattle.rules.specs.State as rules
use Rattle.rules.specs.State.{codes, with_typed, with_token, with_read, with_display_column, with_idle}
use Rattle.rules.specs.Screen.{shown_all, change}
use Rattle.rules.specs.Turns.{Rule, still, writes, changes, only}
use Rattle.rules.specs.Token.{is_whole}
use Rattle.rules.specs.ReadData.{ends_read, more_data, read_data_of, completes}
use Rattle.rules.specs.Calls.{message_bytes}
use Rattle.rules.specs.Messages.Codec as codec
use Rattle.rules.specs.Messages.Forms as forms
use Rattle.fields.specs.Spans.{span_of}
use Rattle.message.specs.Found.{held_in}
use Rattle.message.specs.declared.Message.TheVariants.{ReadData}
use Rattle.line.specs.declared.Work.{Work}
use Rattle.line.specs.declared.Line.{Line}
use Rattle.line.specs.declared.Reading.{Reading}
use Rattle.line.specs.declared.Typed.{Typed}
use Rattle.line.specs.declared.Terms.{Terms}
use Rattle.line.specs.declared.Flow.{Flow}
use Rattle.line.specs.View.{view, input_of, reading_of, pending_of, keys_of, token_of}
use Rattle.line.specs.Bounded.{CountedTyped, CountedReading}
use Rattle.line.specs.With.{Has, GoesOn, on_read, on_typed, off_read, on_flow, lent}
use Rattle.line.specs.ReadChanges.{idling, shown_at}
use Rattle.line.specs.TokenChanges.{codes_of, untokened, tokened}
use Rattle.line.specs.Promise.{Progress, on, Does}
use Rattle.rules.proofs.Choice.{pick_true, pick-false}
use Rattle.line.proofs.Answers.{under_way}
use Rattle.line.proofs.Turns.{has_does, changes_does, still_does}
use Rattle.line.proofs.InputAppended.{input-length}
use Rattle.line.proofs.TokenBytes.{tokened_token}

module _ {w r : Progress} {t t' m m' : List ℕ} where
  -- the same bytes by another name
  pub same_writes : {bs cs : List ℕ} → bs ≡ cs → Does (writes bs) w t m r t' m' → Does (writes cs) w t m r t' m'
  same_writes e h = rw (sym e) h

  -- a rule for what equals its argument
  pub for_equal : {A : Type 0} (F : A → Rule ℕ) {a b : A} → a ≡ b → Does (F a) w t m r t' m' → Does (F b) w t m r t' m'
  for_equal F e h = rw (sym e) h

  pub completes_as : {code code' n n' : ℕ} {e e' : rules.Reading ℕ} → code ≡ code' → n ≡ n' → e ≡ e' →
      Does (completes codes code n e) w t m r t' m' → Does (completes codes code' n' e') w t m r t' m'
  completes_as p q e h = rw (sym p, sym q, sym e) h

none_does : (w : Progress) (t m : List ℕ) → Does (writes []) w t m w t m
unfolding writes shown_all message_bytes joined puts
none_does w t m = record { state = refl; shows = refl; sends = refl; terminal_length = refl; messages_length = refl }

pub blank_does : (w : Progress) (t m : List ℕ) {bs : List ℕ} → bs ≡ [] → Does (writes bs) w t m w t m
blank_does w t m e = rw e (none_does w t m)

-- A choice at a state, taken.
module _ (rule f g : Rule ℕ) (v : rules.State ℕ) {test : Bool} where
  pub first_at : rule v ≡ pick test f g v → test ≡ true → rule v ≡ f v
  first_at e b = e ∙ ap (λ p. p v) (pick_true f g b)

  pub second_at : rule v ≡ pick test g f v → test ≡ false → rule v ≡ f v
  second_at e b = e ∙ ap (λ p. p v) (pick-false g f b)

-- A rule that looks at its state, and chooses there.
module _ {rule f : Rule ℕ} {w r : Progress} {t t' m m' : List ℕ} where
  pub here_rule : rule (view w.line) ≡ f (view w.line) → Does f w t m r t' m' → Does rule w t m r t' m'
  here_rule e h =
      record {
        state = h.state ∙ ap (λ u. u.state) (sym e);
        shows = h.shows ∙ ap (λ u. puts u.bytes (spot t w.at)) (sym e);
        sends = h.sends ∙ ap (λ u. puts (message_bytes codes u) (spot m w.sent)) (sym e);
        terminal_length = h.terminal_length;
        messages_length = h.messages_length;
      }

  module _ {test : Bool} (g : Rule ℕ) where
    pub here_first : rule (view w.line) ≡ pick test f g (view w.line) → test ≡ true → Does f w t m r t' m' → Does rule w t m r t' m'
    here_first e b h = here_rule (first_at rule f g (view w.line) e b) h

    pub here_second : rule (view w.line) ≡ pick test g f (view w.line) → test ≡ false → Does f w t m r t' m' → Does rule w t m r t' m'
    here_second e b h = here_rule (second_at rule f g (view w.line) e b) h

module _ {rule : Rule ℕ} {w : Progress} {test : Bool} (f : Rule ℕ) where
  pub here_only : {r : Progress} {t t' m m' : List ℕ} → rule (view w.line) ≡ only test f (view w.line) → test ≡ true →
      Does f w t m r t' m' → Does rule w t m r t' m'
  unfolding only
  here_only e b h = here_first still e b h

  pub here_not : (t m : List ℕ) → rule (view w.line) ≡ only test f (view w.line) → test ≡ false → Does rule w t m w t m
  unfolding only
  here_not t m e b = here_second f e b (still_does w t m)

-- A call that goes on with another flow.
pub goes_as : {f g : Flow} {a s : ℕ} {r : Work} → f ≡ g → Has f a s r → Has g a s r
goes_as e h = record { flow = h.flow ∙ e; at = h.at; sent = h.sent }

module _ (w : Work) {v : Work} where
  pub goes_does : {f : Flow} (l : Line) (g : rules.State ℕ → rules.State ℕ) → GoesOn f w v → view (on_flow f l) ≡ g (view (on_flow w.flow l)) →
      (t m : List ℕ) → Does (changes g) (on l w) t m (on l v) t m
  goes_does l g h e t m = has_does h l (changes_does t m g e refl refl)

  -- with this read pending, which stands for another
  module _ (r : Reading) (h : GoesOn (on_read r w.flow) w v) where
    pub read_does : (l : Line) {e : rules.Reading ℕ} → reading_of l r ≡ e → (t m : List ℕ) →
        Does (changes (with_read (some e))) (on l w) t m (on l v) t m
    read_does l {e} same t m =
        goes_does l (with_read (some e)) h (λ i. with_read (some (same i)) (view (on_flow w.flow l))) t m

  -- with another token, and the keys that wait
  module _ {next : Typed} (h : GoesOn (on_typed next w.flow) w v) where
    -- without the token
    pub cleared_does : next ≡ untokened w.flow.typed → (l : Line) (t m : List ℕ) →
        Does (changes (with_token [])) (on l w) t m (on l v) t m
    unfolding token_of
    cleared_does e l t m =
        goes_does l (with_token [])
        (goes_as (ap (λ n. on_typed n w.flow) e) h) refl t m

    -- one byte more in it
    pub tokened_does : (b : ℕ) → CountedTyped w.flow.typed → w.flow.typed.token_len < token_size → next ≡ tokened b w.flow.typed →
        (l : Line) (t m : List ℕ) →
        Does (changes (λ s. with_token (s.typed.token ++ b ∷ []) s)) (on l w) t m (on l v) t m
    tokened_does b c room e l t m =
        let typed = w.flow.typed in
        goes_does l (λ s. with_token (s.typed.token ++ b ∷ []) s)
        (goes_as (ap (λ n. on_typed n w.flow) e) h)
        (λ i. with_typed (keys_of typed.keys_len l.keys) (tokened_token typed c b room i) (view (on_flow w.flow l))) t m

-- with no read pending
pub off_does : (w : Work) (l : Line) (t m : List ℕ) → Does ends_read (on l w) t m (under_way (on_flow (off_read w.flow) l) w.at w.sent) t m
unfolding ends_read
off_does w l t m = changes_does t m (with_read none) refl refl refl

-- with this read pending, whose text has changed
module _ (w : Work) {v : Work} (r : Reading) (h : GoesOn (on_read r w.flow) w v) where
  pub text_does : (t : Terms) (text text' : List ℕ) (l : Line) {e : rules.Reading ℕ} → reading_of (lent t text' l) r ≡ e → (a m : List ℕ) →
      Does (changes (with_read (some e))) (on (lent t text l) w) a m (on (lent t text' l) v) a m
  text_does t text text' l {e} same a m =
      has_does h (lent t text' l)
      (changes_does a m (with_read (some e)) (λ i. with_read (some (same i)) (view (on_flow w.flow (lent t text l)))) refl refl)

-- with no read pending the text does not show
pub ended_does : {p : Rule ℕ} {w : Progress} {t t' m m' : List ℕ} (v : Work) (terms : Terms) (text text' : List ℕ) (l : Line) → v.flow.pending ≡ None →
    Does p w t m (on (lent terms text l) v) t' m' → Does p w t m (on (lent terms text' l) v) t' m'
ended_does v terms text text' l e h =
    let none = ap (pending_of (lent terms text l)) e in
    let none' = ap (pending_of (lent terms text' l)) e in
    record {
      state = (λ i. with_read ((none' ∙ sym none) i) (view (on_flow v.flow (lent terms text l)))) ∙ h.state;
      shows = h.shows;
      sends = h.sends;
      terminal_length = h.terminal_length;
      messages_length = h.messages_length;
    }

-- a read with the column, or idle, set
pub display_column_same : (r : Reading) {next : Reading} {column : ℕ} → next ≡ shown_at column r → (l : Line) → reading_of l next ≡ with_display_column column (reading_of l r)
display_column_same r e l = rw e refl

pub idle_same : (r : Reading) {next : Reading} {idle : ℕ} → next ≡ idling idle r → (l : Line) → reading_of l next ≡ with_idle idle (reading_of l r)
idle_same r e l = rw e refl

-- the answer of a read, as the program sends it
module _ (f : Flow) (t : Terms) (r : Reading) (code ending : ℕ) {more vertical horizontal : ℕ} where
  pub read_data_held : (text : List ℕ) (k l : Line) → CountedReading r text →
      more ≡ bit (not (is_empty (keys_of f.typed.keys_len k.keys)) || is_whole (codes_of f.typed)) →
      vertical ≡ change f.terminal.screen.line t.line →
      horizontal ≡ change f.terminal.screen.column t.column →
      held_in text
      (ReadData (record {
        code = code;
        more = more;
        low_water = r.low_water;
        vertical = vertical;
        horizontal = horizontal;
        terminator = r.input_len - ending;
        text = record { start = 0; len = r.input_len };
      }))
      ≡ codec.message (read_data_of codes code ending (reading_of (lent t text l) r) (view (on_flow f k)))
  unfolding held_in span_of read_data_of more_data input_of
  read_data_held text k l c m v h =
      let n : r.input_len - ending ≡ length (input_of r.input_len text) - ending =
      ap (λ j. j - ending) (sym (input-length r.input_len text (omega arith))) in λ i.
      codec.message (record {
        kind = forms.read_data;
        numbers = code ∷ m i ∷ r.low_water ∷ v i ∷ h i ∷ n i ∷ [];
        set = [];
        parameters = [];
        text = take r.input_len text;
      })
