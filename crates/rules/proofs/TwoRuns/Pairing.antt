-- Two lists of calls that differ in some keys' codes make one list of calls over twins.
use Prim.Native.Nat.{ℕ, zero, suc, ◌+◌}
use mathlib.Core.Path.{◌≡◌, refl, sym, ap, ◌∙◌}
use mathlib.Core.Bool.{Bool, true, false, not, false≢true}
use mathlib.Core.List.{List, [], ◌∷◌, map}
use native.Mathlib.Omega.{arith}
use lib.Dec.{eqb}
use lib.ListN.{get_or}
use borrow.Author.Tests.{eqb-true}
use Rattle.rules.specs.Choice.{pick, same_all}
use Rattle.rules.specs.Calls.{Event, key, step, tick, message, load, Call}
use Rattle.rules.specs.TwoRuns.{event_kind, event_bytes, code_of, agree, alike, changed_at, each_changed, is_printing, both_printing, same_class}
use Rattle.rules.specs.TwoRuns.{Placed, typed_at, placed_event, placed}
use Rattle.rules.proofs.Choice.{pick-false, halves, quarters, same_all_equal}
use Rattle.rules.proofs.Erasure.Maps.{map_event, map_call}
use Rattle.rules.proofs.TwoRuns.Twins.{Twin, both, apart, first_row_answer, second_of, Hidden}

-- An event by its parts.

event_of : {C : Type 0} → C → ℕ → List (List ℕ) → Event C
event_of c zero bytes = key c
event_of c (suc zero) bytes = step
event_of c (suc (suc zero)) bytes = tick
event_of c (suc (suc (suc zero))) bytes = message (get_or bytes 0 [])
event_of c (suc (suc (suc (suc kind)))) bytes = load (get_or bytes 0 []) (get_or bytes 1 [])

map_parts : {C D : Type 0} (f : C → D) (c : C) (kind : ℕ) (bytes : List (List ℕ)) → map_event f (event_of c kind bytes) ≡ event_of (f c) kind bytes
unfolding event_of
map_parts f c zero bytes = refl
map_parts f c (suc zero) bytes = refl
map_parts f c (suc (suc zero)) bytes = refl
map_parts f c (suc (suc (suc zero))) bytes = refl
map_parts f c (suc (suc (suc (suc kind)))) bytes = refl

placed_parts : (place : ℕ) (e : Event ℕ) → event_of (typed_at place (code_of e)) (event_kind e) (event_bytes e) ≡ placed_event place e
unfolding event_of code_of event_kind event_bytes placed_event
placed_parts place (key n) = refl
placed_parts place step = refl
placed_parts place tick = refl
placed_parts place (message bytes) = refl
placed_parts place (load own site) = refl

-- Two calls.

-- they agree but for a key's code
record Like (c d : Call ℕ) : Type 0 where
  terminal : c.terminal ≡ d.terminal
  messages : c.messages ≡ d.messages
  kind : event_kind c.event ≡ event_kind d.event
  bytes : event_bytes c.event ≡ event_bytes d.event

agree_like : (c d : Call ℕ) → agree c d ≡ true → Like c d
unfolding agree
agree_like c d e =
    let h =
    quarters (eqb c.terminal d.terminal) (eqb c.messages d.messages)
    (eqb (event_kind c.event) (event_kind d.event)) (same_all (event_bytes c.event) (event_bytes d.event)) e in
    record {
      terminal = eqb-true _ _ h.0;
      messages = eqb-true _ _ h.1;
      kind = eqb-true _ _ h.2;
      bytes = same_all_equal _ _ h.3;
    }

like_itself : (c : Call ℕ) → Like c c
like_itself c = record { terminal = refl; messages = refl; kind = refl; bytes = refl }

-- a call with its place
abbrev placed_call : ℕ → Call ℕ → Call Placed
placed_call place c = record { terminal = c.terminal; messages = c.messages; event = placed_event place c.event }

module _ {C : Type 0} where
  -- a call with another character
  with_cell : C → Call ℕ → Call C
  with_cell x c =
      record { terminal = c.terminal; messages = c.messages; event = event_of x (event_kind c.event) (event_bytes c.event) }

  call_placed : (f : C → Placed) (x : C) (place : ℕ) (c d : Call ℕ) → Like c d → f x ≡ typed_at place (code_of d.event) →
      map_call f (with_cell x c) ≡ placed_call place d
  unfolding with_cell
  call_placed f x place c d like e =
      let event =
      map_parts f x (event_kind c.event) (event_bytes c.event) ∙
      (λ i. event_of (e i) (like.kind i) (like.bytes i)) ∙
      placed_parts place d.event in
      λ i. record { terminal = like.terminal i; messages = like.messages i; event = event i }

module _ (changed : ℕ → Bool) where
  -- One key.

  record Cell (place m n : ℕ) : Type 0 where
    cell : Twin changed
    first : first_row_answer cell ≡ typed_at place m
    second : second_of cell ≡ typed_at place n

  -- the tests of its two codes
  record Tested (place m n : ℕ) : Type 0 where
    changes : not (eqb m n) ≡ changed place
    printing : pick (eqb m n) true (both_printing m n) ≡ true
    class : pick (eqb m n) true (same_class m n) ≡ true

  make_cell : (place m n : ℕ) → Tested place m n → Cell place m n
  unfolding both_printing
  make_cell place m n t = by_codes (eqb m n) refl
    where
      by_codes : (b : Bool) → eqb m n ≡ b → Cell place m n
      by_codes true e =
          record { cell = both (typed_at place m); first = refl; second = ap (typed_at place) (eqb-true m n e) }
      by_codes false e =
          let h = halves (is_printing m) (is_printing n) (sym (pick-false _ _ e) ∙ t.printing) in
          let hidden : Hidden m n =
          record { first = h.0; second = h.1; class = sym (pick-false _ _ e) ∙ t.class } in
          record { cell = apart place m n (sym t.changes ∙ ap not e) hidden; first = refl; second = refl }

  -- Two lists, from a place on.

  pub record Twins (place : ℕ) (cs ds : List (Call ℕ)) : Type 0 where
    pub calls : List (Call (Twin changed))
    pub first : map (map_call first_row_answer) calls ≡ placed place cs
    pub second : map (map_call second_of) calls ≡ placed place ds

  pub twins : (place : ℕ) (cs ds : List (Call ℕ)) → ((at k : ℕ) → at ≡ place + k → changed_at cs ds k ≡ changed at) →
      alike cs ds ≡ true → each_changed both_printing cs ds ≡ true → each_changed same_class cs ds ≡ true → Twins place cs ds
  unfolding alike changed_at each_changed placed
  twins place [] [] at_place same printing class = record { calls = []; first = refl; second = refl }
  twins place [] (d ∷ ds) at_place same printing class = absurd (false≢true same)
  twins place (c ∷ cs) [] at_place same printing class = absurd (false≢true same)
  twins place (c ∷ cs) (d ∷ ds) at_place same printing class =
      let a = halves (agree c d) (alike cs ds) same in
      let m = code_of c.event in
      let n = code_of d.event in
      let p = halves (pick (eqb m n) true (both_printing m n)) (each_changed both_printing cs ds) printing in
      let q = halves (pick (eqb m n) true (same_class m n)) (each_changed same_class cs ds) class in
      let x = make_cell place m n (record { changes = at_place place zero (omega arith); printing = p.0; class = q.0 }) in
      let rest = twins (suc place) cs ds (λ at k e. at_place at (suc k) (omega arith)) a.1 p.1 q.1 in
      record {
        calls = with_cell x.cell c ∷ rest.calls;
        first = λ i. call_placed first_row_answer x.cell place c c (like_itself c) x.first i ∷ rest.first i;
        second = λ i. call_placed second_of x.cell place c d (agree_like c d a.0) x.second i ∷ rest.second i;
      }
