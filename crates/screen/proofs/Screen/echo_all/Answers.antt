use Rattle.std.proofs.Common.{ap, get_or}
use Rattle.rules.specs.Screen.{echo, echo_all}
use Rattle.screen.proofs.Echoes.{echo_all_more}
use Rattle.screen.proofs.Written.{nothing, equals, adds, column_behind}
use Rattle.screen.proofs.Screen.echo_all.Goals as goal

pub loop-character-init : goal.loop-character-init
unfolding echo_all
loop-character-init c = nothing

pub loop-character-preserved : goal.loop-character-preserved
loop-character-preserved c =
    let text = c.args.text.now in
    let i = c.loop-character.character-index in
    let before = c.loop-character.invariant in
    let echoed = equals (ap (λ k. echo k (get_or text i 0)) (column_behind before)) c.echo.ensures in
    adds (echo_all_more c.args.self.now.column text i c.loop-character-test.true) before echoed
