use mathlib.Core.Path.{sym, ap, ◌∙◌}
use native.Mathlib.Omega.{arith}
use Rattle.rules.proofs.Numbers.{waiting_byte}
use Rattle.line.proofs.ArrivalLaws.{rested, keeps_does}
use Rattle.line.proofs.Work.keeps.Goals as goal
use Rattle.line.proofs.Work.keeps.Goals.{in-Some, in_default}

pub overflow_add-next : goal.overflow_add-next
overflow_add-next c = omega (arith, waiting_byte)

pub returns : goal.returns
returns c =
    elim c.match-next.branch [
      | in-Some w ↦
          record {
            rule = keeps_does c.args.self c.requires.keys_len_bound (ap rested (sym w.in-Some.is))
                (ap (λ x. x.0) w.next-is) (ap (λ x. x.1.0) w.next-is) (ap (λ x. x.1.1.0) w.next-is);
          }
      | in_default w ↦
          record {
            rule = keeps_does c.args.self c.requires.keys_len_bound (w.in_default.is ∙ ap rested (sym w.in_default.is))
                (ap (λ x. x.0) w.next-is) (ap (λ x. x.1.0) w.next-is) (ap (λ x. x.1.1.0) w.next-is);
          }
    ]
