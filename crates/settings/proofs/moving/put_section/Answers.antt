use mathlib.Core.Path.{ap}
use native.Mathlib.Omega.{arith}
use lib.ListN.{length}
use Rattle.rules.specs.Messages.Layout.{framed}
use Rattle.rules.proofs.Bounds.Bytes.{bytes_all}
use Rattle.rules.proofs.Settings.Sections.{section_short}
use Rattle.areas.proofs.Putting.{equals, joins}
use Rattle.settings.proofs.moving.put_section.Goals as goal

pub section_in-section-requires : goal.section_in-section-requires
section_in-section-requires c = c.requires

pub overflow_cast-section : goal.overflow_cast-section
overflow_cast-section c =
    let a = c.args in
    let bytes = bytes_all a.«record».now (λ i. omega (arith, c.type_inv.record i)) in
    omega (arith, ap length c.section_in-section.ensures, section_short a.n a.«record».now bytes)

pub returns : goal.returns
unfolding framed
returns c =
    equals (ap framed c.section_in-section.ensures) (joins c.put_word.ensures c.put_bytes.ensures)
