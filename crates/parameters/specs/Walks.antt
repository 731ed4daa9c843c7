-- What a walk of a parameter list yields.
use Rattle.std.specs.Prelude.{◌≡◌, ◌≤◌, ◌<◌, length, Option, MatchOption}
use Rattle.parameters.specs.declared.Parameter.{Parameter}
use Rattle.parameters.specs.declared.each.Parameters.{Parameters}
use Rattle.parameters.specs.Lists.{ParameterIs}

-- the parameter at the walk's place, and the place behind it; none from the end on
abbrev pub parameter_steps : Parameters → Option Parameter → Parameters → Type 0
parameter_steps s r t =
    (t.kind ≡ s.kind) × (t.list.now ≡ s.list.now) ×
    MatchOption r ((length s.list.now ≤ s.at) × (t ≡ s))
    (λ p. (s.at < length s.list.now) × ParameterIs s.kind s.at s.list.now p × (t.at ≡ p.next))
