use mathlib.Core.Path.{sym}
use native.Mathlib.Omega.{arith}
use borrow.Author.Tests.{tests}
use Rattle.parameters.specs.Lists.{kind_shape}
use Rattle.parameters.proofs.Shapes.{is_initiation, is_question, is_setting}
use Rattle.parameters.proofs.kinds.ListKind.of.Goals as goal

pub returns-in-1 : goal.returns-in-1
unfolding kind_shape
returns-in-1 c = sym (is_initiation c.in-1.is)

pub returns-in-10 : goal.returns-in-10
unfolding kind_shape
returns-in-10 c = sym (is_question (λ e. omega (arith, c.in-10.is)) c.in-10.is)

pub returns-in_default : goal.returns-in_default
unfolding kind_shape
returns-in_default c = sym (is_setting (λ e. search tests) (λ e. search tests))
