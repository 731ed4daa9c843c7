-- The bytes of a span.
use Rattle.std.specs.Prelude.{ℕ, List, take, drop}
use Rattle.fields.specs.declared.Span.{Span}

unfoldable pub span_of : List ℕ → Span → List ℕ
span_of s p = take p.len (drop p.start s)
