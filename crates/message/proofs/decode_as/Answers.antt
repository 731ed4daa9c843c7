use Rattle.std.proofs.Common.{refl, sym, arith, ◌∙◌}
use Rattle.rules.specs.Messages.Layout.{size_of}
use Rattle.rules.specs.Messages.Forms.{forms, form_of}
use Rattle.message.specs.Found.{held_in, span_list_of}
use Rattle.message.proofs.Heads.{no_more, none_first, bit_first, byte_first, word_first}
use Rattle.message.proofs.Decoding.{finds_refusal, is_free, is_fixed}
use Rattle.message.proofs.Types.{undefined_kind, wrong_type_lem, is_type, as_read, as_fixed}
use Rattle.message.proofs.decode_as.Goals as goal

pub decode_initiate-requires : goal.decode_initiate-requires
decode_initiate-requires c = is_type c.args.s.now c.requires.sized c.requires.typed c.in-1.is

pub decode_start_read-requires : goal.decode_start_read-requires
decode_start_read-requires c = is_type c.args.s.now c.requires.sized c.requires.typed c.in-2.is

pub decode_read_data-requires : goal.decode_read_data-requires
decode_read_data-requires c = is_type c.args.s.now c.requires.sized c.requires.typed c.in-3.is

pub fixed-requires : goal.fixed-requires
unfolding held_in span_list_of form_of forms size_of is_free
fixed-requires c =
    is_fixed 4 c.args.s.now refl (sym c.requires.typed ∙ c.in-4.is) refl
    (bit_first c.byte_at-flag.ensures (byte_first c.byte_at.ensures (omega arith) no_more)) refl refl

pub fixed-requires-in-5 : goal.fixed-requires-in-5
unfolding held_in span_list_of form_of forms size_of is_free
fixed-requires-in-5 c =
    is_fixed 5 c.args.s.now refl (sym c.requires.typed ∙ c.in-5.is) refl
    (bit_first c.byte_at-flag.ensures no_more) refl refl

pub fixed-requires-in-6 : goal.fixed-requires-in-6
unfolding held_in span_list_of form_of forms size_of is_free
fixed-requires-in-6 c =
    is_fixed 6 c.args.s.now refl (sym c.requires.typed ∙ c.in-6.is) refl
    (none_first no_more) refl refl

pub decode_write-requires : goal.decode_write-requires
decode_write-requires c = is_type c.args.s.now c.requires.sized c.requires.typed c.in-7.is

pub fixed-requires-in-8 : goal.fixed-requires-in-8
unfolding held_in span_list_of form_of forms size_of is_free
fixed-requires-in-8 c =
    is_fixed 8 c.args.s.now refl (sym c.requires.typed ∙ c.in-8.is) refl
    (bit_first c.byte_at-flag.ensures (word_first c.word_at.ensures (omega arith) (word_first c.word_at-in-8.ensures (omega arith) no_more))) refl refl

pub fixed-requires-in-9 : goal.fixed-requires-in-9
unfolding held_in span_list_of form_of forms size_of is_free
fixed-requires-in-9 c =
    is_fixed 9 c.args.s.now refl (sym c.requires.typed ∙ c.in-9.is) refl
    (bit_first c.byte_at-flag.ensures no_more) refl refl

pub decode_read_characteristics-requires : goal.decode_read_characteristics-requires
decode_read_characteristics-requires c = is_type c.args.s.now c.requires.sized c.requires.typed c.in-10.is

pub decode_characteristics-requires : goal.decode_characteristics-requires
decode_characteristics-requires c = is_type c.args.s.now c.requires.sized c.requires.typed c.in-11.is

pub fixed-requires-in-12 : goal.fixed-requires-in-12
unfolding held_in span_list_of form_of forms size_of is_free
fixed-requires-in-12 c =
    is_fixed 12 c.args.s.now refl (sym c.requires.typed ∙ c.in-12.is) refl
    (none_first no_more) refl refl

pub fixed-requires-in-13 : goal.fixed-requires-in-13
unfolding held_in span_list_of form_of forms size_of is_free
fixed-requires-in-13 c =
    is_fixed 13 c.args.s.now refl (sym c.requires.typed ∙ c.in-13.is) refl
    (none_first (word_first c.word_at-count.ensures (omega arith) no_more)) refl refl

pub fixed-requires-in-14 : goal.fixed-requires-in-14
unfolding held_in span_list_of form_of forms size_of is_free
fixed-requires-in-14 c =
    is_fixed 14 c.args.s.now refl (sym c.requires.typed ∙ c.in-14.is) refl
    (bit_first c.byte_at-flag.ensures no_more) refl refl

pub returns-in-1 : goal.returns-in-1
returns-in-1 c = as_read c.args.s.now c.requires.sized c.requires.typed c.in-1.is refl c.decode_initiate.ensures

pub returns-in-2 : goal.returns-in-2
returns-in-2 c = as_read c.args.s.now c.requires.sized c.requires.typed c.in-2.is refl c.decode_start_read.ensures

pub returns-in-3 : goal.returns-in-3
returns-in-3 c = as_read c.args.s.now c.requires.sized c.requires.typed c.in-3.is refl c.decode_read_data.ensures

pub returns-in-4 : goal.returns-in-4
returns-in-4 c = as_fixed c.args.s.now c.requires.sized c.requires.typed c.in-4.is refl c.fixed.ensures

pub returns-in-5 : goal.returns-in-5
returns-in-5 c = as_fixed c.args.s.now c.requires.sized c.requires.typed c.in-5.is refl c.fixed-in-5.ensures

pub returns-in-6 : goal.returns-in-6
returns-in-6 c = as_fixed c.args.s.now c.requires.sized c.requires.typed c.in-6.is refl c.fixed-in-6.ensures

pub returns-in-7 : goal.returns-in-7
returns-in-7 c = as_read c.args.s.now c.requires.sized c.requires.typed c.in-7.is refl c.decode_write.ensures

pub returns-in-8 : goal.returns-in-8
returns-in-8 c = as_fixed c.args.s.now c.requires.sized c.requires.typed c.in-8.is refl c.fixed-in-8.ensures

pub returns-in-9 : goal.returns-in-9
returns-in-9 c = as_fixed c.args.s.now c.requires.sized c.requires.typed c.in-9.is refl c.fixed-in-9.ensures

pub returns-in-10 : goal.returns-in-10
returns-in-10 c = as_read c.args.s.now c.requires.sized c.requires.typed c.in-10.is refl c.decode_read_characteristics.ensures

pub returns-in-11 : goal.returns-in-11
returns-in-11 c = as_read c.args.s.now c.requires.sized c.requires.typed c.in-11.is refl c.decode_characteristics.ensures

pub returns-in-12 : goal.returns-in-12
returns-in-12 c = as_fixed c.args.s.now c.requires.sized c.requires.typed c.in-12.is refl c.fixed-in-12.ensures

pub returns-in-13 : goal.returns-in-13
returns-in-13 c = as_fixed c.args.s.now c.requires.sized c.requires.typed c.in-13.is refl c.fixed-in-13.ensures

pub returns-in-14 : goal.returns-in-14
returns-in-14 c = as_fixed c.args.s.now c.requires.sized c.requires.typed c.in-14.is refl c.fixed-in-14.ensures

pub returns-in_default : goal.returns-in_default
returns-in_default c =
    finds_refusal (wrong_type_lem c.args.s.now c.requires.sized c.requires.typed (undefined_kind c.in_default.in_default-own.rest))
