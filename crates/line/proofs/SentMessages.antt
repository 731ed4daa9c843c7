-- A message that was put behind its length is a message sent.
use mathlib.Core.Path.{◌≡◌, refl, sym, ap, ◌∙◌}
use Prim.Native.Nat.{ℕ, ◌+◌, ◌≤◌}
use native.Mathlib.Omega.{arith}
use lib.Dec.{leb-zero}
use borrow.Author.Tests.{le-leb}
use Rattle.rules.proofs.Choice.{both}
use Rattle.rules.proofs.Bounds.Sent.{map_text_same}
use mathlib.Core.Bool.{true}
use mathlib.Core.List.{List, [], ◌∷◌, append-nil}
use Rattle.rules.specs.Choice.{joined}
use Rattle.rules.specs.Area.{puts, spot}
use Rattle.rules.specs.Messages.Forms as forms
use Rattle.rules.specs.Turns.{sends}
use Rattle.rules.specs.Messages.Layout.{framed}
use Rattle.rules.specs.Calls.{sent_bytes, map_text, message_bytes}
use Rattle.writing.specs.Spans as spans
use Rattle.writing.specs.Spans.{inside}
use Rattle.areas.specs.Puts.{Puts}
use Rattle.line.specs.declared.Work.{Work}
use Rattle.line.specs.With.{AfterSent, on_flow}
use Rattle.line.specs.declared.Line.{Line}
use Rattle.line.specs.Promise.{on, Does}
use Rattle.line.proofs.Answers.{under_way}
use Rattle.line.proofs.Turns.{has_does}

-- one message, in the bytes of a turn
one_message : (x : forms.Message ℕ) → joined (framed (sent_bytes (map_text (λ n. n) x)) ∷ []) ≡ framed (sent_bytes x)
unfolding joined
one_message x = append-nil _ ∙ ap (λ y. framed (sent_bytes y)) (map_text_same x)

-- a message was put behind its length
pub put_does : {at sent n : ℕ} {a a' : List ℕ} (x : forms.Message ℕ) → Puts (framed (sent_bytes x)) a sent n a' → (l : Line) (t : List ℕ) →
    Does (sends x) (under_way l at sent) t a (under_way l at n) t a'
unfolding sends message_bytes puts
put_does {at} {sent} {n} {a} {a'} x p l t =
    record {
      state = refl;
      shows = refl;
      sends = p.area ∙ ap (λ bs. puts bs (spot a sent)) (sym (one_message x));
      terminal_length = refl;
      messages_length = p.same;
    }

-- and the call goes on behind it
pub sent_does : (w : Work) {v : Work} {n : ℕ} {a a' : List ℕ} (x : forms.Message ℕ) → Puts (framed (sent_bytes x)) a w.sent n a' →
    AfterSent n w v → (l : Line) (t : List ℕ) → Does (sends x) (on l w) t a (on l v) t a'
sent_does w x p e l t = has_does e l (put_does x p (on_flow w.flow l) t)

-- a text in front of a slice lies inside it
pub text_inside : (n size : ℕ) → n ≤ size → inside size (spans.with_text 3 8 (record { start = 0; len = n })) ≡ true
unfolding inside
text_inside n size h =
    let none = leb-zero size in
    both (both (both none none) (le-leb (0 + n) size (omega arith))) none
