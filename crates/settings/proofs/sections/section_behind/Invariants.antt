use Rattle.std.proofs.Common.{◌≡◌, ◌-◌}
use Rattle.rules.specs.Settings.{section_behind}
use Rattle.settings.proofs.sections.section_behind.Given as goal

abbrev pub invariant-loop : goal.invariant-loop
invariant-loop l = section_behind (l.n - l.counter) l.rest ≡ section_behind l.n l.sections
