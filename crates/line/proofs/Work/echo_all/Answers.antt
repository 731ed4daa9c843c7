use Rattle.std.proofs.Common.{rules}
use Rattle.line.proofs.Turns.{writes_does}
use Rattle.line.proofs.Work.echo_all.Goals as goal

pub returns : goal.returns
returns c = record { rule = writes_does c.args.self c.writer-writer.ensures c.echo_all.ensures (search rules) c.showing.ensures }
