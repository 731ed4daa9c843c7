use mathlib.Core.Path.{refl}
use borrow.Author.Rules.{rules}
use Rattle.characteristics.specs.View.{host_view}
use Rattle.characteristics.proofs.Obeying.{sets_attribute, sets_switch}
use Rattle.characteristics.proofs.Host.with_setting.Goals as goal

pub returns-then-p-eq-CHARACTER_ATTRIBUTES : goal.returns-then-p-eq-CHARACTER_ATTRIBUTES
returns-then-p-eq-CHARACTER_ATTRIBUTES c =
    record {
      same = λ at s is. sets_attribute is (host_view c.args.self) c.if-p-eq-CHARACTER_ATTRIBUTES.true c.with_attribute-attributes.ensures;
      kept = record { initiated = refl; set = refl; counted = λ k. record { table = search rules; set = k.set } };
    }

pub returns : goal.returns
returns c =
    record {
      same = λ at s is. sets_switch is (host_view c.args.self) c.if-p-eq-CHARACTER_ATTRIBUTES.false c.with_switch-switches.ensures;
      kept = record { initiated = refl; set = refl; counted = λ k. record { table = k.table; set = k.set } };
    }
