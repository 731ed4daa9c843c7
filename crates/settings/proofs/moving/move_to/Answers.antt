use Rattle.std.proofs.Common.{rules}
use mathlib.Core.Path.{sym, ◌∙◌}
use native.Mathlib.Omega.{arith}
use lib.ListN.{length}
use Rattle.rules.proofs.Numbers.{moving_area_lem}
use Rattle.rules.proofs.Bounds.Bytes.{bytes_all}
use Rattle.rules.proofs.Settings.Moving.{movable_parts, in_small, not_movable, over_top, move-sound, moved_fits}
use Rattle.settings.specs.Forms.{code_of}
use Rattle.areas.proofs.InFront.{refusal, put_in_front}
use Rattle.settings.proofs.moving.move_to.Goals as goal

pub returns-then-area-lt-MOVING_AREA : goal.returns-then-area-lt-MOVING_AREA
returns-then-area-lt-MOVING_AREA c =
    let a = c.args in
    refusal (in_small (code_of a.form) (length a.area.now) a.«record».now (omega (arith, moving_area_lem, c.if-area-lt-MOVING_AREA.true)))

pub returns-then-not-is_movable : goal.returns-then-not-is_movable
returns-then-not-is_movable c =
    let a = c.args in
    refusal
    (not_movable (code_of a.form) (length a.area.now) a.«record».now (omega (arith, moving_area_lem, c.if-area-lt-MOVING_AREA.false))
    (sym c.is_movable.ensures ∙ c.if-not-is_movable.true))

pub returns-then-top_largest_read-largest_read_of : goal.returns-then-top_largest_read-largest_read_of
returns-then-top_largest_read-largest_read_of c =
    let a = c.args in
    refusal
    (over_top (code_of a.form) (length a.area.now) a.«record».now (omega (arith, moving_area_lem, c.if-area-lt-MOVING_AREA.false))
    (sym c.is_movable.ensures ∙ c.if-not-is_movable.false)
    (omega (arith, c.top_largest_read.ensures, c.largest_read_of.ensures, c.if-top_largest_read-largest_read_of.true)))

pub returns : goal.returns
returns c =
    let a = c.args in
    let bytes = a.«record».now in
    let are_bytes = bytes_all bytes (λ i. omega (arith, c.type_inv.record i)) in
    let movable = sym c.is_movable.ensures ∙ c.if-not-is_movable.false in
    put_in_front
    (move-sound (code_of a.form) (length a.area.now) bytes (omega (arith, moving_area_lem, c.if-area-lt-MOVING_AREA.false)) movable
    (omega (arith, c.top_largest_read.ensures, c.largest_read_of.ensures, c.if-top_largest_read-largest_read_of.false)))
    (omega (arith, moving_area_lem, moved_fits (code_of a.form) bytes are_bytes (movable_parts (code_of a.form) bytes movable).0, c.if-area-lt-MOVING_AREA.false))
    (search rules)
