use Rattle.std.proofs.Common.{rules, ◌≡◌, sym, ap, ◌∙◌, Err}
use Rattle.message.specs.Found.{found_in}
use Rattle.areas.proofs.InFront.{refusal}
use Rattle.writing.proofs.Writes.{copy_refused, answers_again}
use Rattle.writing.proofs.encoding.copy.Goals as goal

pub returns-in_default : goal.returns-in_default
unfolding found_in
returns-in_default c =
    let s = c.args.s.now in
    let is : c.decode-found.result ≡ Err c.unwrap_err.result = search rules in
    refusal (copy_refused _ s (ap (found_in s) (sym is) ∙ c.decode-found.ensures.fields))

pub returns : goal.returns
returns c = answers_again c.decode-found.ensures c.in-Ok.is c.encode.ensures
