use native.Mathlib.Omega.{arith}
use Rattle.rules.proofs.Numbers.{message_word}
use Rattle.fields.specs.Spans.{span_of}
use Rattle.fields.proofs.Pieces.{all_behind}
use Rattle.message.proofs.spans.rest_from.Goals as goal

pub overflow_cast-size : goal.overflow_cast-size
overflow_cast-size c = omega (arith, message_word)

pub returns : goal.returns
unfolding span_of
returns c =
    let a = c.args in
    let left = c.saturating_sub.ensures in
    record {
      same = all_behind a.s.now a.at c.saturating_sub.result (omega (arith, left));
      long = left;
      inside = λ h. omega (arith, left);
    }
