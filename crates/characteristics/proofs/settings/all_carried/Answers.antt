use Rattle.std.proofs.Common.{rules, ap, ◌∙◌}
use borrow.Author.Tests.{tests}
use Rattle.rules.specs.Messages.Parameters.{selector, cleaned, cut}
use Rattle.rules.specs.Characteristics.{is_carried}
use Rattle.parameters.specs.Lists.{shape_of, parameters_from}
use Rattle.parameters.proofs.Walks.{walk_all}
use Rattle.characteristics.proofs.AllCarried.{all_mapped}
use Rattle.characteristics.proofs.settings.all_carried.Goals as goal

pub returns : goal.returns
unfolding parameters_from
returns c =
    let a = c.args in
    let shape = shape_of a.kind in
    let walk = c.new.ensures in
    walk_all a.kind a.list.now (λ p. is_carried p.selector) (λ p. is_carried (selector (cleaned shape p)))
    (λ at p h is. ap is_carried is.selected) walk.kind walk.list walk.at c.all.ensures.ran (λ p b q k. search (rules, tests)) ∙
    all_mapped (λ p. is_carried (selector p)) (cleaned shape) (cut shape 0 a.list.now)
