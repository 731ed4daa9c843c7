-- The parameters of a span are the list from the beginning of its bytes.
use mathlib.Core.Path.{◌≡◌, sym, ap}
use Prim.Native.Nat.{ℕ, zero}
use mathlib.Core.List.{List, map}
use Rattle.rules.specs.Messages.Parameters.{Shape, cleaned, cut}
use Rattle.parameters.specs.Lists.{shape_of, parameters_from}
use Rattle.fields.specs.declared.Span.{Span}
use Rattle.fields.specs.Spans.{span_of}
use Rattle.message.specs.Found.{parameters_of}

pub list_from : {shape : Shape} (kind : ℕ) → shape_of kind ≡ shape → (s : List ℕ) (p : Span) →
    parameters_of shape s p ≡ parameters_from kind 0 (span_of s p)
unfolding parameters_of parameters_from
list_from kind e s p = ap (λ sh. map (cleaned sh) (cut sh zero (span_of s p))) (sym e)
