use mathlib.Core.Path.{sym, ap, ◌∙◌}
use mathlib.Core.List.{map-id}
use Rattle.rules.specs.Token.{is_whole}
use Rattle.line.specs.View.{token_of}
use Rattle.line.proofs.Typed.is_held.Goals as goal

pub returns : goal.returns
unfolding token_of
returns c = c.is_whole.ensures ∙ ap is_whole (sym (map-id _))
