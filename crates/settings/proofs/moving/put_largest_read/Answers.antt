use mathlib.Core.Path.{sym, ap, ◌∙◌}
use Rattle.rules.specs.Messages.Layout.{framed}
use Rattle.rules.specs.Settings.Moving.{largest_read_as}
use Rattle.settings.specs.Forms.{code_of}
use Rattle.areas.proofs.Putting.{equals, joins}
use Rattle.settings.proofs.Moved.{none_framed, read_framed}
use Rattle.settings.proofs.moving.put_largest_read.Goals as goal

pub returns-then-is_empty : goal.returns-then-is_empty
returns-then-is_empty c =
    let form = code_of c.args.form in
    equals (none_framed form c.section_in-section.result.now (sym c.is_empty.ensures ∙ c.if-is_empty.true) ∙ ap (λ s. framed (largest_read_as form s)) c.section_in-section.ensures)
    c.put_word.ensures

pub returns : goal.returns
returns c =
    let form = code_of c.args.form in
    equals
    (read_framed form c.section_in-section.result.now (sym c.is_empty.ensures ∙ c.if-is_empty.false) c.largest_read_bytes-width.ensures c.word_at.ensures ∙
    ap (λ s. framed (largest_read_as form s)) c.section_in-section.ensures)
    (joins c.put_word-2.ensures c.put_number.ensures)
