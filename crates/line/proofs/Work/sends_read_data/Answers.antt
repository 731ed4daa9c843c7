use mathlib.Core.Path.{refl}
use native.Mathlib.Omega.{arith}
use Rattle.rules.specs.ReadData.{sends_read_data, read_data_of}
use Rattle.line.proofs.FlowChanges.{here_rule}
use Rattle.line.proofs.LentText.{lent_reading}
use Rattle.line.proofs.Work.sends_read_data.Goals as goal

pub returns : goal.returns
unfolding sends_read_data read_data_of
returns c =
    let sent = c.send.ensures in
    let a = c.args in record {
      rule = λ k l x.
          let answer = c.read_data_of-message.ensures a.text.now k l (lent_reading c.args.text.now c.told-text c.args.r c.requires.input_len_bound) in
          here_rule refl (sent.rule _ (record { held = answer.0; listless = refl; set = omega arith; lie = answer.1 }) k x);
    }
