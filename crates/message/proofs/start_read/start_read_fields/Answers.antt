use mathlib.Core.Path.{refl, ap, ◌∙◌}
use native.Mathlib.Omega.{arith}
use Rattle.rules.specs.Messages.Layout.{fields_in}
use Rattle.rules.specs.Messages.Forms.{start_read_widths}
use Rattle.message.proofs.Heads.{Taken, none_taken, taken, no_more, word_first}
use Rattle.message.proofs.SetAndText.{start_read_is}
use Rattle.message.proofs.start_read.start_read_fields.Goals as goal

pub returns : goal.returns
returns c =
    let flags : Taken start_read_widths c.three_at.result _ =
    taken c.take.ensures.field c.take.ensures.rest
    (taken c.take-2.ensures.field c.take-2.ensures.rest
    (taken c.take-3.ensures.field c.take-3.ensures.rest
    (taken c.take-4.ensures.field c.take-4.ensures.rest
    (taken c.take-5.ensures.field c.take-5.ensures.rest
    (taken c.take-6.ensures.field c.take-6.ensures.rest
    (taken c.take-7.ensures.field c.take-7.ensures.rest
    (taken c.take-8.ensures.field c.take-8.ensures.rest
    (taken c.take-9.ensures.field c.take-9.ensures.rest
    (taken c.take-10.ensures.field c.take-10.ensures.rest
    (taken c.take-11.ensures.field c.take-11.ensures.rest
    (taken c.take-12.ensures.field c.take-12.ensures.rest none_taken))))))))))) in
    start_read_is c.args.s.now c.byte_at-count.ensures c.rest_from.ensures c.requires.typed
    (record { flags = flags.same ∙ ap (fields_in start_read_widths) c.three_at.ensures; set_kept = refl; text_kept = refl })
    (word_first c.word_at.ensures (omega arith)
    (word_first c.word_at-2.ensures (omega arith)
    (word_first c.word_at-3.ensures (omega arith)
    (word_first c.word_at-4.ensures (omega arith)
    (word_first c.word_at-5.ensures (omega arith)
    (word_first c.word_at-6.ensures (omega arith) no_more))))))
