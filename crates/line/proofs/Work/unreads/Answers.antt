use Rattle.line.specs.With.{lent}
use Rattle.line.specs.Promise.{on}
use Rattle.line.proofs.Unread.{unreads_none, unreads_now, unreads_not}
use Rattle.line.proofs.LentText.{text_full}
use Rattle.line.proofs.Work.unreads.Goals as goal

pub returns-in_default : goal.returns-in_default
returns-in_default c =
    let a = c.args in record { rule = λ l x. unreads_none (on (lent a.t a.text.now l) a.self) a.condition x _ c.in_default.is }

pub returns-then-condition-nothing : goal.returns-then-condition-nothing
returns-then-condition-nothing c =
    let a = c.args in
    let done = c.completes.ensures in record {
      rule = λ l x.
          let line = lent a.t a.text.now l in
          unreads_now (on line a.self) a.condition c.in-Some.is c.args.self.counted (text_full c.args.text.now c.told-text) c.if-condition-nothing.true (done.rule line l x);
    }

pub returns : goal.returns
returns c =
    let a = c.args in record {
      rule = λ l x.
          unreads_not (on (lent a.t a.text.now l) a.self) a.condition c.in-Some.is c.args.self.counted (text_full c.args.text.now c.told-text) x _ c.if-condition-nothing.false;
    }
