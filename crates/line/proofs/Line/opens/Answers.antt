use mathlib.Core.Path.{sym, ap, ◌∙◌, subst}
use Prim.Native.Nat.{◌-◌}
use native.Mathlib.Omega.{arith}
use lib.ListN.{length}
use lib.Seq.{sets}
use Rattle.line.specs.StartRead.{on_opened, Opens}
use Rattle.rules.proofs.Numbers.{input_word, input_numeral, input_size_lem}
use Rattle.line.proofs.StartRead.{pieces_fit, line_opens}
use Rattle.line.proofs.Line.opens.Goals as goal

pub overflow_cast-size : goal.overflow_cast-size
overflow_cast-size c = let room = pieces_fit c.requires.startable c.prompt_of-prompt.ensures c.data_of-data.ensures in omega (arith, input_word)

pub put_text-requires : goal.put_text-requires
put_text-requires c =
    let pre = c.requires in
    let room = pieces_fit pre.startable c.prompt_of-prompt.ensures c.data_of-data.ensures in
    record { piece_bound = omega arith }

pub overflow_sub-size : goal.overflow_sub-size
overflow_sub-size c = let room = pieces_fit c.requires.startable c.prompt_of-prompt.ensures c.data_of-data.ensures in omega (arith, input_size_lem)

pub put_text-requires-2 : goal.put_text-requires-2
put_text-requires-2 c =
    let room = pieces_fit c.requires.startable c.prompt_of-prompt.ensures c.data_of-data.ensures in
    record { piece_bound = omega (arith, input_size_lem) }

pub returns : goal.returns
returns c =
    let a = c.args in
    let l = a.self in
    let shown = c.prompt_of-prompt.result.now in
    let typed = c.data_of-data.result.now in
    let terms = c.terms_for-next in
    let chosen = c.chosen_set-next in
    let last = c.last_set-next in
    let text =
    c.put_text-2.ensures ∙ ap (λ x. sets x (input_numeral - length shown) shown) c.put_text.ensures
    ∙ ap (λ n. sets (sets l.text 0 typed) (n - length shown) shown) (sym input_size_lem) in
    subst (λ x. Opens a.s.now a.f l (on_opened terms.result chosen.result x last.result l)) (sym text)
    (line_opens c.requires.startable l c.requires.counted.text shown typed c.prompt_of-prompt.ensures c.data_of-data.ensures terms.ensures chosen.result last.result
    chosen.ensures last.ensures)
