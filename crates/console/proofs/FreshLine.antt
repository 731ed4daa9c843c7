-- A line made of fresh parts is fresh, and within bounds.
use mathlib.Core.Path.{◌≡◌, refl, sym, subst}
use Prim.Native.Nat.{ℕ}
use native.Mathlib.Omega.{arith}
use mathlib.Core.Bool.{true, false}
use mathlib.Core.List.{List}
use lib.ListN.{length, take, replicate}
use Rattle.rules.specs.Numbers.{input_size, type_ahead_size}
use Rattle.rules.proofs.Numbers.{input_numeral, input_size_lem}
use Rattle.rules.specs.StartRead.{universal}
use Rattle.rules.specs.State.{fresh, fresh_host, fresh_switches}
use Rattle.rules.specs.Bounds as bounds
use Rattle.rules.proofs.Bounds.Calls.{fresh_bounded}
use Rattle.sets.specs.declared.Set.{Set}
use Rattle.sets.specs.View.{set_of, CountedSet}
use Rattle.line.specs.declared.Key.{Key}
use Rattle.line.specs.declared.Terms.{Terms}
use Rattle.line.specs.declared.Flow.{Flow}
use Rattle.line.specs.declared.Line.{Line}
use Rattle.line.specs.View.{keys_of, token_of, pending_of, view}
use Rattle.line.specs.Bounded.{IsFresh}
use Rattle.console.specs.FreshFlow.{IsFreshFlow}

module _ (keys : List Key) (text : List ℕ) (set : Set) (terms : Terms) (flow : Flow) where
  abbrev line_of : Line
  line_of =
      record {
        attributes = replicate 256 0;
        keys = keys;
        text = text;
        set = set;
        last_set = set;
        largest_read = input_numeral;
        initiated = false;
        switches = record { raising = false; echoing = true; recognising = false; prompting = false };
        terms = terms;
        flow = flow;
      }

  module _ (f : IsFreshFlow flow) (universal_set : (set_of set ≡ universal) × CountedSet set) where
    fresh-view : view line_of ≡ fresh
    unfolding fresh fresh_host fresh_switches keys_of token_of
    fresh-view = λ i.
        record {
          host = record { initiated = false; switches = fresh_switches; attributes = replicate 256 0; last_set = universal_set.0 i; largest_read = sym input_size_lem i };
          terminal = f.terminal i;
          typed = record { type_ahead = keys_of (f.keys_length i) keys; token = take (f.token i) flow.typed.token };
          pending_read = pending_of line_of (f.pending i);
        }

    pub is_fresh : length keys ≡ type_ahead_size → length text ≡ input_size → terms.prompt_len ≡ 0 → IsFresh line_of
    is_fresh k x p =
        record {
          state = fresh-view;
          bounded = record {
            state = subst bounds.Bounded (sym fresh-view) fresh_bounded;
            counted = record {
              table = refl;
              keys = k;
              text = x;
              set = universal_set.1;
              last_set = universal_set.1;
              prompt = omega arith;
              flow = f.counted;
            };
          };
        }
