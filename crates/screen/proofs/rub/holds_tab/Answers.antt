use Rattle.std.proofs.Common.{rules, ◌≡◌, ◌∙◌}
use Rattle.std.specs.List.{list_any}
use Rattle.screen.specs.Marks.{is_tab}
use Rattle.rules.proofs.Choice.{any_listed}
use Rattle.screen.proofs.rub.holds_tab.Goals as goal

pub returns : goal.returns
unfolding is_tab
returns c =
    let found : c.contains.result ≡ list_any is_tab c.args.text.now = search rules in
    found ∙ any_listed is_tab c.args.text.now
