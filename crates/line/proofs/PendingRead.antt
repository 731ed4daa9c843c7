-- What a step knows of a pending read, and the key that it takes.
use mathlib.Core.Path.{◌≡◌, refl, sym, ap, subst}
use Prim.Native.Nat.{ℕ, ◌-◌, ◌≤◌, ◌<◌}
use native.Mathlib.Omega.{arith}
use Rattle.std.specs.Prelude.{true, false, Option, Some, None, is_some}
use mathlib.Core.List.{List}
use mathlib.Core.Option.{some}
use lib.ListN.{length, length-drop}
use Rattle.rules.specs.Numbers.{input_size, type_ahead_size}
use Rattle.rules.specs.State.{with_typed, with_read}
use Rattle.rules.specs.Turns.{◌then◌}
use Rattle.line.specs.declared.Line.{Line}
use Rattle.line.specs.declared.Reading.{Reading}
use Rattle.line.specs.declared.Flow.{Flow}
use Rattle.line.specs.declared.Work.{Work}
use Rattle.line.specs.declared.Terms.{Terms}
use Rattle.line.specs.declared.acts.Taken.{Taken}
use Rattle.line.specs.View.{view, prompt_of, reading_of, token_of}
use Rattle.line.specs.Bounded.{CountedFlow, CountedReading, Bounded}
use Rattle.line.specs.With.{on_flow, lent}
use Rattle.line.specs.KeyArray.{shifted}
use Rattle.line.specs.ReadChanges.{HasRoom, idling}
use Rattle.line.specs.Promise.{Progress, on, Does}
use Rattle.line.specs.Acts.{idle_at_zero, key_taken, takes_key, taken_rule, HasTakenKey}
use Rattle.line.proofs.ReceivedMessage.{true-false}
use Rattle.line.proofs.KeyArrays.{first_gone}
use Rattle.line.proofs.InputAppended.{end_is}
use Rattle.line.proofs.Turns.{changes_does, then_does}
use Rattle.line.proofs.FlowChanges.{for_equal}

prompt_length : (n : ℕ) (text : List ℕ) → n ≤ input_size → length text ≡ input_size → length (prompt_of n text) ≡ n
unfolding prompt_of
prompt_length n text h e = let long = length-drop (input_size - n) text in omega arith

-- a read that is pending
pub record Pending (p : Option Reading) : Type 0 where
  pub read : Reading
  pub is : p ≡ Some read

pub pending_read : (p : Option Reading) → is_some p ≡ true → Pending p
pending_read (Some r) e = record { read = r; is = refl }
pending_read None e = absurd (true-false (sym e))

pub no_read : (p : Option Reading) → is_some p ≡ false → p ≡ None
no_read None e = refl
no_read (Some r) e = absurd (true-false e)

pub pending_within : (f : Flow) → CountedFlow f → {r : Reading} → f.pending ≡ Some r → r.input_len ≤ input_size
pending_within f c e = rw e at c.within

pub pending_room : (l : Line) → Bounded l → {r : Reading} → l.flow.pending ≡ Some r → HasRoom l.terms r
pending_room l b {r} e =
    let read = rw e at b.state.pending_read in
    let counted = b.counted in
    let full : CountedReading r l.text = record { within = pending_within l.flow counted.flow e; full = counted.text } in
    let end = end_is l.terms l.text l r full in
    let prompt = prompt_length l.terms.prompt_len l.text counted.prompt counted.text in
    let largest = read.terms.largest in
    let room = read.room in
    let shown = read.terms.prompt in
    record { largest = largest; room = omega arith; prompt = omega arith }

-- the first key goes, and this read is pending
abbrev pub taken : Reading → Flow → Flow
taken next f =
    let t = f.typed in
    record {
      terminal = f.terminal;
      typed = record { keys_len = t.keys_len - 1; token = t.token; token_len = t.token_len };
      pending = Some next;
    }

pub has_taken : (next : Reading) (w : Work) (k : CountedFlow (taken next w.flow)) → 0 < w.flow.typed.keys_len →
    HasTakenKey next w (record { flow = taken next w.flow; at = w.at; sent = w.sent; counted = k })
unfolding token_of
has_taken next w k waits =
    let f = w.flow in
    let c = w.counted in
    record {
      does = λ r idle l size t m.
          changes_does t m (key_taken (on_flow f l) r)
          (λ i.
          with_read (some (reading_of l (idle i)))
          (with_typed (first_gone f.typed.keys_len l.keys waits (omega (arith, size, c.typed.keys_length)) i) (token_of f.typed) (view (on_flow f l))))
          refl refl;
      token = refl;
    }

-- and what a rule then does with its read
module _ (r : Reading) {next : Reading} (idle : next ≡ idling 0 r) where
  pub key_room : (t : Terms) → HasRoom t r → HasRoom t next
  key_room t h = subst (HasRoom t) (sym idle) (record { largest = h.largest; room = h.room; prompt = h.prompt })

  pub key_then : {w v : Work} → HasTakenKey next w v → {a b : Taken} → a ≡ b → (t : Terms) (text : List ℕ) (l : Line) → length l.keys ≡ type_ahead_size → {u : Progress} {x x' m m' : List ℕ} →
      Does (taken_rule b (reading_of (lent t text l) next)) (on (lent t text (shifted w.flow l)) v) x m u x' m' →
      Does (takes_key (on_flow w.flow (lent t text l)) r then taken_rule a (idle_at_zero (on_flow w.flow (lent t text l)) r)) (on (lent t text l) w) x m u x' m'
  key_then {w} {v} k {a} {b} e t text l size {u} {x} {x'} {m} {m'} d =
      then_does (k.does r idle (lent t text l) size x m)
      (for_equal (λ j. taken_rule j (idle_at_zero (on_flow w.flow (lent t text l)) r)) (sym e)
      (for_equal (taken_rule b) (ap (reading_of (lent t text l)) idle) d))
