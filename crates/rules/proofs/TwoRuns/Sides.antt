-- One side of the twins: mapped to its characters, a run over twins is that side's run.
use Prim.Native.Nat.{ℕ, suc}
use mathlib.Core.Path.{◌≡◌, refl, sym, ap, ◌∙◌}
use mathlib.Core.Bool.{Bool}
use mathlib.Core.List.{List, [], ◌∷◌, map}
use Rattle.rules.specs.State.{raised, codes}
use Rattle.rules.specs.Calls.{Event, key, step, tick, message, load, Call, run}
use Rattle.rules.specs.TwoRuns.{Placed, typed_at, preloaded, code_in, raised_in, placed_codes, placed_event, placed}
use Rattle.rules.proofs.Erasure.Maps.{Maps, map_event, map_call, map_answer}
use Rattle.rules.proofs.Erasure.Calls.{erase_run}
use Rattle.rules.proofs.TwoRuns.Twins.{Twin, both, apart, side_of, raise, side_chars}

-- Calls that know their places are the plain calls.

event_unplaced : (place : ℕ) (e : Event ℕ) → map_event code_in (placed_event place e) ≡ e
unfolding placed_event code_in
event_unplaced place (key n) = refl
event_unplaced place step = refl
event_unplaced place tick = refl
event_unplaced place (message bytes) = refl
event_unplaced place (load own site) = refl

unplaced : (place : ℕ) (cs : List (Call ℕ)) → map (map_call code_in) (placed place cs) ≡ cs
unfolding placed
unplaced place [] = refl
unplaced place (c ∷ cs) = λ i.
    record { terminal = c.terminal; messages = c.messages; event = event_unplaced place c.event i } ∷
    unplaced (suc place) cs i

code_raised : (p : Placed) → code_in (raised_in p) ≡ raised (code_in p)
unfolding code_in raised_in
code_raised (typed_at place n) = refl
code_raised (preloaded n) = refl

module _ {C : Type 0} (f : C → Placed) where
  -- one map after the other
  event_twice : (e : Event C) → map_event code_in (map_event f e) ≡ map_event (λ c. code_in (f c)) e
  event_twice (key c) = refl
  event_twice step = refl
  event_twice tick = refl
  event_twice (message bytes) = refl
  event_twice (load own site) = refl

  calls_twice : (calls : List (Call C)) → map (map_call code_in) (map (map_call f) calls) ≡ map (map_call (λ c. code_in (f c))) calls
  calls_twice [] = refl
  calls_twice (c ∷ calls) = λ i.
      record { terminal = c.terminal; messages = c.messages; event = event_twice c.event i } ∷ calls_twice calls i

module _ {changed : ℕ → Bool} where
  -- a side of calls over twins: by a choice of one of two codes they are a plain list
  pub record Side (choose : ℕ → ℕ → ℕ) (calls : List (Call (Twin changed))) (cs : List (Call ℕ)) : Type 0 where
    pub raises : (m n : ℕ) → choose (raised m) (raised n) ≡ raised (choose m n)
    pub places : map (map_call (side_of choose)) calls ≡ placed 0 cs

  module _ {choose : ℕ → ℕ → ℕ} {calls : List (Call (Twin changed))} {cs : List (Call ℕ)} (side : Side choose calls cs) where
    side_raised : (c : Twin changed) → side_of choose (raise c) ≡ raised_in (side_of choose c)
    unfolding raised_in
    side_raised (both p) = refl
    side_raised (apart place m n c h) = ap (typed_at place) (side.raises m n)

    pub side_placed : map (map_answer (side_of choose)) (run (side_chars choose) calls) ≡ run placed_codes (placed 0 cs)
    side_placed =
        let maps : Maps (side_of choose) (side_chars choose) placed_codes =
        record { code = λ c. refl; raise = side_raised; given = λ n. refl } in
        erase_run maps calls ∙ ap (run placed_codes) side.places

    pub side_codes : map (map_answer (λ c. code_in (side_of choose c))) (run (side_chars choose) calls) ≡ run codes cs
    unfolding code_in
    side_codes =
        let maps : Maps (λ c. code_in (side_of choose c)) (side_chars choose) codes =
        record {
          code = λ c. refl;
          raise = λ c. ap code_in (side_raised c) ∙ code_raised (side_of choose c);
          given = λ n. refl;
        } in
        let plain = sym (calls_twice (side_of choose) calls) ∙ ap (map (map_call code_in)) side.places ∙ unplaced 0 cs in
        erase_run maps calls ∙ ap (run codes) plain
