use mathlib.Core.Path.{ap, ◌∙◌}
use Prim.Native.Nat.{◌-◌}
use Rattle.rules.specs.Settings.{section_behind, section_in}
use Rattle.settings.proofs.sections.section_in.Goals as goal

pub returns : goal.returns
unfolding section_in
returns c =
    c.section_behind.ensures ∙ ap (section_behind (c.args.n - 1)) c.behind_form.ensures
