-- Keys that wait, in their array: what an act does to them.
use Rattle.std.specs.Prelude.{ℕ, zero, suc, ◌-◌, List, [], ◌∷◌, set}
use Rattle.line.specs.declared.Flow.{Flow}
use Rattle.line.specs.declared.Key.{Key}
use Rattle.line.specs.declared.Line.{Line}
use Rattle.line.specs.View.{plain_key, quoted_key}
use Rattle.line.specs.With.{on_keys}
use Rattle.line.specs.declared.acts.Act.{Act}
use Rattle.line.specs.declared.acts.Act.TheVariants.{Nothing, Stores, StoresQuoted, SendsOutOfBand, ClearsAtOnce, Quotes, Clears, FlipsDiscard}
use Rattle.line.specs.declared.acts.Act.TheVariants.{TakesToken, Takes, TimesOut, Idles, Obeys}

-- the first n places each hold what stood behind them
unfoldable pub shift : ℕ → List Key → List Key
shift zero keys = keys
shift (suc n) [] = []
shift (suc n) (k ∷ []) = k ∷ []
shift (suc n) (k ∷ next ∷ keys) = next ∷ shift n (next ∷ keys)

-- the array after an act, where so many keys waited before it
abbrev pub keys_after : Act → ℕ → List Key → List Key
keys_after Nothing waiting keys = keys
keys_after (Stores c) waiting keys = set keys waiting (plain_key c)
keys_after (StoresQuoted c) waiting keys = set keys waiting (quoted_key c)
keys_after (SendsOutOfBand c) waiting keys = keys
keys_after (ClearsAtOnce c) waiting keys = keys
keys_after Quotes waiting keys = keys
keys_after Clears waiting keys = keys
keys_after FlipsDiscard waiting keys = keys
keys_after TakesToken waiting keys = keys
keys_after (Takes k) waiting keys = shift (waiting - 1) keys
keys_after TimesOut waiting keys = keys
keys_after (Idles idle) waiting keys = keys
keys_after (Obeys m) waiting keys = keys

-- the line with a key put behind those that wait
abbrev pub stored : Key → Flow → Line → Line
stored k f l = on_keys (set l.keys f.typed.keys_len k) l

-- and with the first of so many gone
abbrev pub shifted : Flow → Line → Line
shifted f l = on_keys (shift (f.typed.keys_len - 1) l.keys) l
