use Rattle.line.specs.With.{lent}
use Rattle.rules.specs.Editing.{redisplays}
use Rattle.line.proofs.Turns.{then_does}
use Rattle.line.proofs.Work.redisplays.Goals as goal

pub displays-requires : goal.displays-requires
displays-requires c = record { input_len_bound = c.requires.input_len_bound; prompt_len_bound = c.requires.prompt_len_bound }

pub returns : goal.returns
unfolding redisplays
returns c =
    let a = c.args in
    let shown = c.displays.ensures in
    record { rule = λ l m. then_does (c.write-next.ensures.rule (lent a.t a.text.now l) m) (shown.rule l m) }
