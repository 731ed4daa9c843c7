-- Every chain from a fresh line shows what the rules' run of its calls shows; so what is proved of runs holds of chains.
use mathlib.Core.Path.{◌≡◌, refl, sym, ap, ◌∙◌, subst}
use Prim.Native.Nat.{ℕ}
use native.Mathlib.Omega.{arith}
use mathlib.Core.Bool.{true, ◌&&◌}
use mathlib.Core.List.{List, [], ◌∷◌, map}
use lib.Dec.{eqb}
use lib.ListN.{length, take, drop}
use lib.Seq.{take-append_seam}
use borrow.Author.Tests.{eqb-true}
use Rattle.rules.specs.Choice.{same}
use Rattle.rules.specs.State.{codes}
use Rattle.rules.specs.Calls.{Call, answer, area_after, message_bytes, run_from, run}
use Rattle.rules.specs.Bench.{Exchange, answers_as, runs_as, holds}
use Rattle.rules.specs.TwoRuns.{Supposition, supposed, in_band, unacted, seen, LooksTheSame}
use Rattle.rules.proofs.Choice.{halves, quarters, same_equal}
use Rattle.rules.proofs.Numbers.{area_word}
use Rattle.rules.proofs.Bench.{row_holds}
use Rattle.rules.proofs.Bounds.Calls.{call_within}
use Rattle.rules.proofs.TwoRuns.Claim.{demand3, demand3_weak}
use Rattle.line.specs.declared.Line.{Line}
use Rattle.line.specs.View.{view}
use Rattle.line.specs.Bounded.{Bounded}
use Rattle.line.specs.Chains.{Link, Kept, Chain, FromFresh, call_of, calls_of, outside_data, seen_of}
use Rattle.line.specs.Chains.{ChainsLookTheSame, ProgramDemand3, ProgramDemand3Weak, GivesExchange, AllGive, ProgramBench}
use Rattle.line.proofs.Blanking.{area_walks}

-- the bytes in front of an area, up to their count
front : (n : ℕ) (bytes area after : List ℕ) → n ≡ length bytes → after ≡ area_after bytes area → take n after ≡ bytes
unfolding area_after
front n bytes area after e h = (λ i. take (e i) (h i)) ∙ take-append_seam bytes (drop (length bytes) area)

-- a link shows what the rules' answer shows
link_seen : {l : Line} {k : Link} → Bounded l → Kept l k → seen_of k ≡ seen (answer codes (call_of k) (view l))
unfolding seen_of seen message_bytes
link_seen {l} {k} b kept =
    let p = kept.promise in
    let a = answer codes (call_of k) (view l) in
    let within = (call_within (call_of k) (view l) kept.byte b.state).messages in
    let walk = area_walks a.turn.messages (omega (arith, area_word)) in
    let terminal = front k.answer.terminal a.turn.bytes k.terminal k.terminal' p.shown p.terminal_area in
    let messages = front k.answer.messages (message_bytes codes a.turn) k.messages k.messages' p.sent p.message_area in
    λ i.
    record {
      number = p.number i;
      terminal = terminal i;
      terminal_count = p.shown i;
      messages = (ap (outside_data 0 0) messages ∙ walk) i;
      message_count = p.sent i;
      dropped_count = (kept.count ∙ ap (λ s. s.terminal.dropped) p.state) i;
    }

chain_seen : (l : Line) (ks : List Link) → Bounded l → Chain l ks → map seen_of ks ≡ map seen (run_from codes (view l) (calls_of ks))
unfolding run_from
chain_seen l [] b c = refl
chain_seen l (k ∷ ks) b c =
    let p = c.0.promise in
    let rest =
    chain_seen k.answer.line ks p.bounded c.1
    ∙ ap (λ s. map seen (run_from codes s (calls_of ks))) p.state in
    λ i. link_seen b c.0 i ∷ rest i

run-seen : (ks : List Link) → FromFresh ks → map seen_of ks ≡ map seen (run codes (calls_of ks))
unfolding run
run-seen ks f =
    chain_seen f.line ks f.fresh.bounded f.chain
    ∙ ap (λ s. map seen (run_from codes s (calls_of ks))) f.fresh.state

-- what looks the same of runs looks the same of chains
carried : (arrival : Supposition) → ((cs ds : List (Call ℕ)) → supposed arrival cs ds ≡ true → LooksTheSame cs ds) → ChainsLookTheSame arrival
carried arrival claim ks js f g e = run-seen ks f ∙ claim (calls_of ks) (calls_of js) e ∙ sym (run-seen js g)

pub program_demand3 : ProgramDemand3
program_demand3 = carried in_band demand3

pub program_demand3_weak : ProgramDemand3Weak
program_demand3_weak = carried unacted demand3_weak

-- The bench table.

-- a link whose answer by the rules is an exchange's
link_meets : (l : Line) (e : Exchange) (k : Link) → Kept l k → answers_as e (answer codes (call_of k) (view l)) ≡ true → GivesExchange e k
unfolding answers_as
link_meets l e k kept h =
    let p = kept.promise in
    let a = answer codes (call_of k) (view l) in
    let q =
    quarters (eqb e.number a.number) (same e.terminal a.turn.bytes) (same e.messages (message_bytes codes a.turn))
    (eqb e.dropped a.turn.state.terminal.dropped) h in
    let terminal = sym (same_equal e.terminal a.turn.bytes q.1) in
    let messages = sym (same_equal e.messages (message_bytes codes a.turn) q.2) in
    record {
      number = p.number ∙ sym (eqb-true e.number a.number q.0);
      shown = p.shown ∙ ap length terminal;
      sent = p.sent ∙ ap length messages;
      terminal = p.terminal_area ∙ ap (λ bs. area_after bs k.terminal) terminal;
      messages = p.message_area ∙ ap (λ bs. area_after bs k.messages) messages;
      dropped =
          kept.count ∙ ap (λ s. s.terminal.dropped) p.state ∙ sym (eqb-true e.dropped a.turn.state.terminal.dropped q.3);
    }

chain_meets : (es : List Exchange) (l : Line) (ks : List Link) → Chain l ks → calls_of ks ≡ map (λ e. e.call) es → runs_as (view l) es ≡ true →
    AllGive es ks
unfolding runs_as
chain_meets [] l [] c q h = tt
chain_meets [] l (k ∷ ks) c q h = let no : ◌≡◌ {A = ℕ} 0 1 = cc in omega arith
chain_meets (e ∷ es) l [] c q h = let no : ◌≡◌ {A = ℕ} 0 1 = cc in omega arith
chain_meets (e ∷ es) l (k ∷ ks) c q h =
    let asked : e.call ≡ call_of k = cc in
    let more : calls_of ks ≡ map (λ e. e.call) es = cc in
    let a = answer codes (call_of k) (view l) in
    let here =
    halves (answers_as e a) (runs_as a.turn.state es)
    (subst (λ x. let a = answer codes x (view l) in answers_as e a && runs_as a.turn.state es ≡ true) asked h) in
    let left = subst (λ s. runs_as s es ≡ true) (sym c.0.promise.state) here.1 in
    (link_meets l e k c.0 here.0, chain_meets es k.answer.line ks c.1 more left)

pub program_bench : ProgramBench
unfolding holds
program_bench es m ks f q =
    chain_meets es f.line ks f.chain q (subst (λ s. runs_as s es ≡ true) (sym f.fresh.state) (row_holds m))
