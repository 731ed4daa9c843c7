use mathlib.Core.Path.{sym, ◌∙◌}
use Rattle.settings.proofs.Found.{counted, not_found, from_site, from_own}
use Rattle.settings.proofs.section.Goals as goal

pub returns-then-not-is_one-both : goal.returns-then-not-is_one-both
returns-then-not-is_one-both c =
    let a = c.args in
    not_found a.n a.own.now a.site.now c.is_sound.ensures c.is_sound-2.ensures c.if-not-is_one-both.true

pub section_in-found-requires : goal.section_in-found-requires
section_in-found-requires c =
    counted c.args.n c.is_sound.result c.is_sound-2.result c.if-not-is_one-both.false

pub section_in-requires : goal.section_in-requires
section_in-requires c =
    counted c.args.n c.is_sound.result c.is_sound-2.result c.if-not-is_one-both.false

pub returns-then-is_empty : goal.returns-then-is_empty
returns-then-is_empty c =
    let a = c.args in
    c.section_in.ensures ∙
    from_site a.n a.own.now a.site.now c.is_sound.ensures c.is_sound-2.ensures c.if-not-is_one-both.false
    c.section_in-found.ensures (sym c.is_empty.ensures ∙ c.if-is_empty.true)

pub returns : goal.returns
returns c =
    let a = c.args in
    from_own a.n a.own.now a.site.now c.is_sound.ensures c.is_sound-2.ensures c.if-not-is_one-both.false
    c.section_in-found.ensures (sym c.is_empty.ensures ∙ c.if-is_empty.false)
