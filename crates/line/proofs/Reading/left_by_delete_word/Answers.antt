use Rattle.line.proofs.WordDeletion.{leaves_23}
use Rattle.line.proofs.Reading.left_by_delete_word.Goals as goal

pub returns : goal.returns
returns c =
    leaves_23 c.args.self c.args.text.now c.end_before-spaces.result _ c.requires c.end_before-spaces.ensures c.end_before.ensures
