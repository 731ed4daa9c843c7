-- What an accepted host message looks at, as the rules have it.
use mathlib.Core.Path.{◌≡◌, sym, ap₂}
use Prim.Native.Nat.{ℕ, ◌+◌}
use native.Mathlib.Omega.{arith}
use mathlib.Core.Bool.{◌&&◌}
use mathlib.Core.List.{List}
use lib.Dec.{eqb}
use Rattle.rules.specs.Choice.{is_empty}
use Rattle.rules.specs.ReadData.{waiting_count}
use Rattle.line.specs.declared.Key.{Key}
use Rattle.line.specs.declared.Typed.{Typed}
use Rattle.line.specs.declared.Flow.{Flow}
use Rattle.line.specs.declared.Reading.{Reading}
use Rattle.line.specs.View.{keys_of, token_of, typed_of, input_of}
use Rattle.line.specs.Bounded.{CountedTyped, CountedFlow, CountedReading}
use Rattle.line.proofs.KeyArrays.{keys_length, keys_empty}
use Rattle.line.proofs.TokenBytes.{empty_take, token_counted}
use Rattle.line.proofs.InputAppended.{input_empty}

pub waiting_count_lem : (keys : List Key) (t : Typed) → CountedTyped t → t.keys_len + t.token_len ≡ waiting_count (typed_of keys t)
unfolding waiting_count
waiting_count_lem keys t c = sym (ap₂ ◌+◌ (keys_length t.keys_len keys) (token_counted t c))

-- nothing typed, and nothing in the read
pub nothing_typed : (keys : List Key) (text : List ℕ) (f : Flow) → CountedFlow f → (r : Reading) → CountedReading r text →
    eqb f.typed.keys_len 0 && eqb f.typed.token_len 0 && eqb r.input_len 0
    ≡ is_empty (keys_of f.typed.keys_len keys) && is_empty (token_of f.typed) && is_empty (input_of r.input_len text)
unfolding token_of
nothing_typed keys text f c r full =
    let t = f.typed in
    sym (ap₂ ◌&&◌
    (ap₂ ◌&&◌ (keys_empty t.keys_len keys) (empty_take t.token_len t.token (omega (arith, c.typed.token_length, c.typed.token))))
    (input_empty r text full))
