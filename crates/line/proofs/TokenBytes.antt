-- The token: what the methods on it leave, and what is asked of it beside the keys that wait.
use mathlib.Core.Path.{◌≡◌, refl, sym, ap, ap₂, ◌∙◌}
use Prim.Native.Nat.{ℕ, zero, suc, ◌≤◌, ◌<◌}
use native.Mathlib.Numerals.{add-one}
use native.Mathlib.Omega.{arith}
use mathlib.Core.Bool.{Bool, false, not, ◌&&◌, ◌||◌}
use mathlib.Core.List.{List, [], ◌∷◌, ◌++◌, map-id}
use lib.Dec.{eqb}
use lib.ListN.{length, take, set, length-set, length-map}
use lib.Seq.{take-suc-set, length-take-le}
use borrow.Author.Tests.{ne_eqb}
use Rattle.rules.specs.Choice.{is_empty}
use Rattle.rules.specs.Numbers.{token_size}
use Rattle.rules.specs.State as rules
use Rattle.rules.specs.Token.{is_whole, is_partial}
use Rattle.rules.proofs.Bounds.Steps.{whole_room}
use Rattle.line.specs.declared.Key.{Key}
use Rattle.line.specs.declared.Typed.{Typed}
use Rattle.line.specs.View.{keys_of, token_of}
use Rattle.line.specs.Bounded.{CountedTyped}
use Rattle.line.proofs.KeyArrays.{keys_empty}
use Rattle.line.specs.TokenChanges.{codes_of, tokened}

-- a list counted into an array is empty where its count is 0
pub empty_take : {A : Type 0} (n : ℕ) (xs : List A) → n ≤ length xs → is_empty (take n xs) ≡ eqb n 0
unfolding is_empty
empty_take zero xs h = refl
empty_take (suc n) [] h = absurd (omega arith)
empty_take (suc n) (x ∷ xs) h = sym (ne_eqb (suc n) 0 (λ e. omega arith))

module _ (t : Typed) (c : CountedTyped t) where
  pub token-length : t.token_len ≡ length (take t.token_len t.token)
  token-length = sym (length-take-le t.token_len t.token (omega arith))

  pub token_counted : length (token_of t) ≡ t.token_len
  unfolding token_of
  token_counted = sym token-length

  token_empty : is_empty (codes_of t) ≡ eqb t.token_len 0
  unfolding token_of
  token_empty = ap is_empty (map-id (take t.token_len t.token)) ∙ empty_take t.token_len t.token (omega arith)

  pub partial_is : {held : Bool} → held ≡ is_whole (codes_of t) → not (eqb t.token_len 0) && not held ≡ is_partial (codes_of t)
  unfolding is_partial
  partial_is e = ap₂ (λ a b. not a && not b) (sym token_empty) e

  -- what remains
  module _ {held : Bool} (e : held ≡ is_whole (codes_of t)) (keys : List Key) where
    pub remains_is : not (eqb t.keys_len 0) || held ≡ not (is_empty (keys_of t.keys_len keys)) || is_whole (codes_of t)
    remains_is = ap₂ (λ a b. not a || b) (sym (keys_empty t.keys_len keys)) e

    -- nothing to take: the test of a tick
    pub nothing_waits : (timed due : Bool) →
        timed && due && eqb t.keys_len 0 && not held ≡ timed && due && is_empty (keys_of t.keys_len keys) && not (is_whole (codes_of t))
    nothing_waits timed due = ap₂ (λ a b. timed && due && a && not b) (sym (keys_empty t.keys_len keys)) e

  -- a token that is not whole has room
  pub token_short : is_whole (codes_of t) ≡ false → t.token_len < token_size
  token_short e =
      let room = whole_room (codes_of t) e in
      let same = length-map (token_of t) (rules.codes).code in
      let long = token_counted in
      omega arith

  -- one byte more
  pub tokened_token : (b : ℕ) → t.token_len < token_size → token_of (tokened b t) ≡ token_of t ++ b ∷ []
  unfolding token_of
  tokened_token b h =
      let room : t.token_len < length t.token = omega arith in
      ap (λ n. take n (set t.token t.token_len b)) (add-one t.token_len) ∙ take-suc-set t.token t.token_len b room

  pub tokened_counted : (b : ℕ) → t.token_len < token_size → CountedTyped (tokened b t)
  tokened_counted b h =
      record { keys_length = c.keys_length; token = length-set t.token t.token_len b ∙ c.token; token_length = omega arith }

  pub grown_counted : (b : ℕ) {next : Typed} → t.token_len < token_size → next ≡ tokened b t → CountedTyped next
  grown_counted b h e = rw e (tokened_counted b h)
