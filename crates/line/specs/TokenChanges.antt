-- Tokens: the places of their grammar, and what the methods on type-ahead and the token promise.
use Rattle.std.specs.Prelude.{ℕ, ◌+◌, List, map, set}
use Rattle.rules.specs.State.{codes}
use Rattle.rules.specs.Token.{Place, empty, escape, middle, parameters, intermediates, valid, invalid}
use Rattle.line.specs.declared.Typed.{Typed}
use Rattle.line.specs.declared.tokens.Place as tokens
use Rattle.line.specs.declared.tokens.Place.TheVariants.{Empty, Escape, Middle, Parameters, Intermediates, Valid, Invalid}
use Rattle.line.specs.View.{token_of}

unfoldable pub place_of : tokens.Place → Place
place_of Empty = empty
place_of Escape = escape
place_of Middle = middle
place_of Parameters = parameters
place_of Intermediates = intermediates
place_of Valid = valid
place_of Invalid = invalid

-- a token's codes, as the rules look at them
abbrev pub codes_of : Typed → List ℕ
codes_of t = map codes.code (token_of t)

-- without its token, with one byte more of it, and with neither keys nor a token
abbrev pub untokened : Typed → Typed
untokened t = record { keys_len = t.keys_len; token = t.token; token_len = 0 }

abbrev pub tokened : ℕ → Typed → Typed
tokened c t =
    record { keys_len = t.keys_len; token = set t.token t.token_len c; token_len = t.token_len + 1 }

abbrev pub emptied : Typed → Typed
emptied t = record { keys_len = 0; token = t.token; token_len = 0 }
