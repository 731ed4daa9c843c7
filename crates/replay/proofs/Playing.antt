-- A chain goes on by one call; what it ends with is in bounds, and is what the rules say.
use Prim.Native.Nat.{ℕ, ◌<◌}
use mathlib.Core.Path.{◌≡◌, refl, sym, ap, ◌∙◌, subst}
use mathlib.Core.Bool.{true}
use mathlib.Core.List.{List, [], ◌∷◌, ◌++◌}
use borrow.Author.Tests.{lt-ltb}
use Rattle.rules.specs.Messages.Codec.{all_bytes}
use Rattle.rules.specs.Calls.{Event, key, step, tick, message, load}
use Rattle.rules.specs.Bounds.{is_byte_event}
use Rattle.rules.proofs.Choice.{both}
use Rattle.line.specs.declared.Line.{Line}
use Rattle.line.specs.declared.Answer.{Answer}
use Rattle.line.specs.View.{view}
use Rattle.line.specs.Bounded.{Bounded, IsFresh}
use Rattle.line.specs.Answers.{Answers}
use Rattle.line.specs.Chains.{Link, Kept, Chain, calls_of}
use Rattle.replay.specs.Played.{last_line, Played, after, IsCount}

chain_more : (l : Line) (ks : List Link) (k : Link) → Chain l ks → Kept (last_line l ks) k → Chain l (ks ++ (k ∷ []))
unfolding last_line
chain_more l [] k c kept = (kept, tt)
chain_more l (j ∷ ks) k c kept = (c.0, chain_more j.answer.line ks k c.1 kept)

last_more : (l : Line) (ks : List Link) (k : Link) → last_line l (ks ++ (k ∷ [])) ≡ k.answer.line
unfolding last_line
last_more l [] k = refl
last_more l (j ∷ ks) k = last_more j.answer.line ks k

last_bounded : (l : Line) (ks : List Link) → Bounded l → Chain l ks → Bounded (last_line l ks)
unfolding last_line
last_bounded l [] b c = b
last_bounded l (k ∷ ks) b c = last_bounded k.answer.line ks c.0.promise.bounded c.1

last_view : (l : Line) (ks : List Link) → Chain l ks → view (last_line l ks) ≡ after (view l) (calls_of ks)
unfolding last_line after
last_view l [] c = refl
last_view l (k ∷ ks) c = last_view k.answer.line ks c.1 ∙ ap (λ s. after s (calls_of ks)) c.0.promise.state

pub played_fresh : {l : Line} → IsFresh l → Played l
unfolding last_line
played_fresh {l} f = record { links = []; chain = record { line = l; fresh = f; chain = tt }; last = refl }

pub played_bounded : {l : Line} → Played l → Bounded l
played_bounded p =
    let f = p.chain in
    subst Bounded p.last (last_bounded f.line p.links f.fresh.bounded f.chain)

-- the count that is read after the chain's last call
pub played_count : (l : Line) (n : ℕ) → n ≡ (view l).terminal.dropped → IsCount l n
played_count l n e p =
    let f = p.chain in
    let end = last_view f.line p.links f.chain ∙ ap (λ s. after s (calls_of p.links)) f.fresh.state in
    e ∙ ap (λ s. s.terminal.dropped) (ap view (sym p.last) ∙ end)

-- One more call.
module _ {l : Line} {r : Answer} {terminal messages terminal' messages' : List ℕ} (p : Played l) where
  played_more : (e : Event ℕ) → is_byte_event e ≡ true → Answers e l terminal messages r terminal' messages' → Played r.line
  played_more e byte promise =
      let f = p.chain in
      let k : Link =
      record {
        event = e;
        terminal = terminal;
        messages = messages;
        answer = r;
        terminal' = terminal';
        messages' = messages';
        dropped = (view r.line).terminal.dropped;
      } in
      let kept : Kept l k = record { byte = byte; promise = promise; count = refl } in
      let more = chain_more f.line p.links k f.chain (subst (λ x. Kept x k) (sym p.last) kept) in
      record {
        links = p.links ++ (k ∷ []);
        chain = record { line = f.line; fresh = f.fresh; chain = more };
        last = last_more f.line p.links k;
      }

  pub played_key : (code : ℕ) → code < 256 → Answers (key code) l terminal messages r terminal' messages' → Played r.line
  unfolding is_byte_event
  played_key code h = played_more (key code) (lt-ltb code 256 h)

  pub played_step : Answers step l terminal messages r terminal' messages' → Played r.line
  unfolding is_byte_event
  played_step = played_more step refl

  pub played_tick : Answers tick l terminal messages r terminal' messages' → Played r.line
  unfolding is_byte_event
  played_tick = played_more tick refl

  pub played_host : (s : List ℕ) → all_bytes s ≡ true → Answers (message s) l terminal messages r terminal' messages' → Played r.line
  unfolding is_byte_event
  played_host s h = played_more (message s) h

  pub played_load : (own site : List ℕ) → all_bytes own ≡ true → all_bytes site ≡ true → Answers (load own site) l terminal messages r terminal' messages' → Played r.line
  unfolding is_byte_event
  played_load own site h k = played_more (load own site) (both h k)
