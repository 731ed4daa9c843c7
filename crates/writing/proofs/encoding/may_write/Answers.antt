use mathlib.Core.Path.{sym, ap, ◌∙◌}
use mathlib.Core.Bool.{not}
use native.Mathlib.Omega.{arith}
use borrow.Author.Tests.{lt-ltb, le-ltb}
use Rattle.rules.specs.Choice.{first_row_answer}
use Rattle.rules.specs.Numbers.{message_area, message_size}
use Rattle.rules.specs.Messages.Codec.{write_refusals}
use Rattle.rules.proofs.Choice.{pick_true, pick-false}
use Rattle.rules.proofs.Numbers.{message_area_lem, message_size_lem}
use Rattle.writing.specs.Writing.{first_refusal}
use Rattle.writing.proofs.encoding.may_write.Goals as goal

pub returns-then-room-lt-MESSAGE_AREA : goal.returns-then-room-lt-MESSAGE_AREA
unfolding first_refusal write_refusals first_row_answer
returns-then-room-lt-MESSAGE_AREA c = sym (pick_true _ _ (lt-ltb _ message_area (omega (arith, message_area_lem, c.if-room-lt-MESSAGE_AREA.true))))

pub returns-then-size-gt-MESSAGE_SIZE : goal.returns-then-size-gt-MESSAGE_SIZE
unfolding first_refusal write_refusals first_row_answer
returns-then-size-gt-MESSAGE_SIZE c =
    sym
    (pick-false _ _ (le-ltb _ message_area (omega (arith, message_area_lem, c.if-room-lt-MESSAGE_AREA.false))) ∙
    pick_true _ _ (lt-ltb message_size _ (omega (arith, message_size_lem, c.if-size-gt-MESSAGE_SIZE.true))))

pub returns-then-not-is_known : goal.returns-then-not-is_known
unfolding first_refusal write_refusals first_row_answer
returns-then-not-is_known c =
    sym
    (pick-false _ _ (le-ltb _ message_area (omega (arith, message_area_lem, c.if-room-lt-MESSAGE_AREA.false))) ∙
    pick-false _ _ (le-ltb message_size _ (omega (arith, message_size_lem, c.if-size-gt-MESSAGE_SIZE.false))) ∙
    pick_true _ _ (ap not (sym c.is_known.ensures) ∙ (ap not c.if-not-is_known.true)))

pub returns-then-not-passes : goal.returns-then-not-passes
unfolding first_refusal write_refusals first_row_answer
returns-then-not-passes c =
    sym
    (pick-false _ _ (le-ltb _ message_area (omega (arith, message_area_lem, c.if-room-lt-MESSAGE_AREA.false))) ∙
    pick-false _ _ (le-ltb message_size _ (omega (arith, message_size_lem, c.if-size-gt-MESSAGE_SIZE.false))) ∙
    pick-false _ _ (ap not (sym c.is_known.ensures) ∙ (ap not c.if-not-is_known.false)) ∙
    pick_true _ _ (ap not c.if-not-passes.true))

pub returns : goal.returns
unfolding first_refusal write_refusals first_row_answer
returns c =
    sym
    (pick-false _ _ (le-ltb _ message_area (omega (arith, message_area_lem, c.if-room-lt-MESSAGE_AREA.false))) ∙
    pick-false _ _ (le-ltb message_size _ (omega (arith, message_size_lem, c.if-size-gt-MESSAGE_SIZE.false))) ∙
    pick-false _ _ (ap not (sym c.is_known.ensures) ∙ (ap not c.if-not-is_known.false)) ∙
    pick-false _ _ (ap not c.if-not-passes.false))
