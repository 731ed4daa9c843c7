use Rattle.settings.proofs.moving.to_form_1.Goals as goal

pub returns : goal.returns
returns c = c.move_to.ensures
