use Rattle.std.proofs.Common.{◌≡◌, ◌-◌}
use Rattle.rules.specs.Settings.{are_whole}
use Rattle.settings.proofs.sections.are_whole.Given as goal

abbrev pub invariant-loop : goal.invariant-loop
invariant-loop l = are_whole (l.n - l.counter) l.rest ≡ are_whole l.n l.sections
