use Rattle.std.proofs.Common.{rules, ◌∙◌}
use borrow.Author.Tests.{tests}
use Rattle.std.proofs.lemmas.Iterator.{YieldsList-from_slice}
use Rattle.std.proofs.lemmas.Iterator.Search.{any_from_yields_List}
use Rattle.rules.specs.Characteristics.{is_deferred_clear}
use Rattle.rules.proofs.Choice.{any_listed}
use Rattle.characteristics.proofs.attributes.any_deferred_clear.Goals as goal

pub returns : goal.returns
unfolding is_deferred_clear
returns c =
    any_from_yields_List is_deferred_clear _ _ _ c.any.ensures.ran (YieldsList-from_slice c.args.table.now (cc)) (λ x b q k. search (rules, tests)) ∙
    any_listed is_deferred_clear c.args.table.now
