use mathlib.Core.Path.{subst}
use Rattle.line.specs.Host.{StartableMessage}
use Rattle.line.specs.With.{lent, on_flow}
use Rattle.line.proofs.Turns.{still_does}
use Rattle.line.proofs.HostAccepted.{obeys_as}
use Rattle.line.proofs.Work.obeys.Goals as goal

pub begins-requires : goal.begins-requires
begins-requires c =
    let pre = c.requires in
    record { prompt_len_bound = pre.prompt_len_bound; startable = subst (StartableMessage c.args.s.now) c.in-StartRead.is pre.startable_message }

pub returns-in-Initiate : goal.returns-in-Initiate
returns-in-Initiate c =
    let a = c.args in
    let done = c.initiates.ensures in
    record { rule = λ l p. obeys_as _ (on_flow a.self.flow (lent a.t a.text.now l)) a.t l c.in-Initiate.is p (λ q. done.rule (lent a.t a.text.now l) _) }

pub returns-in-StartRead : goal.returns-in-StartRead
returns-in-StartRead c =
    let a = c.args in
    let done = c.begins.ensures in
    record { rule = λ l p. obeys_as _ (on_flow a.self.flow (lent a.t a.text.now l)) a.t l c.in-StartRead.is p (λ q. done.rule l q) }

pub returns-in-Unread : goal.returns-in-Unread
returns-in-Unread c =
    let a = c.args in
    let done = c.unreads.ensures in
    record { rule = λ l p. obeys_as _ (on_flow a.self.flow (lent a.t a.text.now l)) a.t l c.in-Unread.is p (λ q. done.rule l _) }

pub returns-in-ClearInput : goal.returns-in-ClearInput
returns-in-ClearInput c =
    let a = c.args in
    let done = c.clears.ensures in
    record { rule = λ l p. obeys_as _ (on_flow a.self.flow (lent a.t a.text.now l)) a.t l c.in-ClearInput.is p (λ q. done.rule l _) }

pub returns-in-Write : goal.returns-in-Write
returns-in-Write c =
    let a = c.args in
    let done = c.writes_out.ensures in
    record { rule = λ l p. obeys_as _ (on_flow a.self.flow (lent a.t a.text.now l)) a.t l c.in-Write.is p (λ q. done.rule (lent a.t a.text.now l)) }

pub returns-in-ReadCharacteristics : goal.returns-in-ReadCharacteristics
returns-in-ReadCharacteristics c = let a = c.args in record { rule = λ l p. obeys_as _ (on_flow a.self.flow (lent a.t a.text.now l)) a.t l c.in-ReadCharacteristics.is p (λ q. still_does _ _ _) }

pub returns-in-Characteristics : goal.returns-in-Characteristics
returns-in-Characteristics c = let a = c.args in record { rule = λ l p. obeys_as _ (on_flow a.self.flow (lent a.t a.text.now l)) a.t l c.in-Characteristics.is p (λ q. still_does _ _ _) }

pub returns-in-CheckInput : goal.returns-in-CheckInput
returns-in-CheckInput c =
    let a = c.args in
    let done = c.checks_input.ensures in
    record { rule = λ l p. obeys_as _ (on_flow a.self.flow (lent a.t a.text.now l)) a.t l c.in-CheckInput.is p (λ q. done.rule (lent a.t a.text.now l) _) }
