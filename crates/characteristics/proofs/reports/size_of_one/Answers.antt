use mathlib.Core.Path.{sym, ap, ◌∙◌}
use native.Mathlib.Omega.{arith}
use lib.ListN.{length}
use Rattle.characteristics.proofs.ReportLaws.{reports_attribute, reports_switch}
use Rattle.characteristics.proofs.reports.size_of_one.Goals as goal

pub returns-then-n-eq-CHARACTER_ATTRIBUTES : goal.returns-then-n-eq-CHARACTER_ATTRIBUTES
returns-then-n-eq-CHARACTER_ATTRIBUTES c = (λ h p e. ap (λ bs. length bs) (sym (reports_attribute h p (sym e ∙ c.if-n-eq-CHARACTER_ATTRIBUTES.true))), omega arith)

pub returns : goal.returns
returns c = (λ h p e. ap (λ bs. length bs) (sym (reports_switch h p (λ k. c.if-n-eq-CHARACTER_ATTRIBUTES.false (e ∙ k)))), omega arith)
