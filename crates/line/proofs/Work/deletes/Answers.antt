use Rattle.rules.specs.Editing.{deletes}
use Rattle.line.specs.With.{lent}
use Rattle.line.proofs.Turns.{then_does}
use Rattle.line.proofs.FlowChanges.{same_writes}
use Rattle.line.proofs.LentText.{lent_reading}
use Rattle.line.proofs.Work.deletes.Goals as goal

pub find_marks-found-requires : goal.find_marks-found-requires
find_marks-found-requires c = lent_reading c.args.text.now c.told-text c.args.r c.requires.input_len_bound

pub in_one_pass-requires : goal.in_one_pass-requires
in_one_pass-requires c = λ l. (c.find_marks-found.ensures l).once

pub deletes_without_rubbing-requires : goal.deletes_without_rubbing-requires
deletes_without_rubbing-requires c =
    record { input_len_bound = c.requires.input_len_bound; left_bound = c.requires.left_bound }

pub returns : goal.returns
unfolding deletes
returns c =
    let rubbed = c.rub_out-rubbed.ensures in
    let found = c.find_marks-found.ensures in
    let a = c.args in
    let deleted = c.deletes_without_rubbing.ensures in record {
      rule = λ fate l m.
          let line = lent a.t a.text.now l in
          then_does (same_writes (found l).marks (rubbed.rule line m)) (deleted.rule fate a.text.now l _ m);
    }
