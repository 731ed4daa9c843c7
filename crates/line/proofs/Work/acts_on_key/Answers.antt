use mathlib.Core.Path.{refl, subst}
use mathlib.Core.List.{[]}
use Rattle.line.specs.With.{lent}
use Rattle.line.specs.Acts.{Doable}
use Rattle.line.proofs.Turns.{still_does}
use Rattle.line.proofs.ActsDone.{done_as, moved, rest}
use Rattle.line.proofs.Work.acts_on_key.Goals as goal

pub returns-in-Stores : goal.returns-in-Stores
returns-in-Stores c =
    let a = c.args in
    let done = c.stores.ensures in
    let e = c.in-Stores.is in
    record { rule = λ l. done_as [] a.t l a.self c.stores.result e (λ size p. done.rule _ (lent a.t a.text.now l) size _); none = λ n. absurd (moved e tt n) }

pub returns-in-StoresQuoted : goal.returns-in-StoresQuoted
returns-in-StoresQuoted c =
    let a = c.args in
    let done = c.stores_quoted.ensures in
    let e = c.in-StoresQuoted.is in
    record { rule = λ l. done_as [] a.t l a.self c.stores_quoted.result e (λ size p. done.rule _ (subst (Doable [] a.self.flow a.t) e c.requires.doable) (lent a.t a.text.now l) size _); none = λ n. absurd (moved e tt n) }

pub returns-in-SendsOutOfBand : goal.returns-in-SendsOutOfBand
returns-in-SendsOutOfBand c =
    let a = c.args in
    let done = c.sends_out_of_band.ensures in
    let e = c.in-SendsOutOfBand.is in
    record { rule = λ l. done_as [] a.t l a.self c.sends_out_of_band.result e (λ size p. done.rule (lent a.t a.text.now l) _); none = λ n. absurd (moved e tt n) }

pub returns-in-ClearsAtOnce : goal.returns-in-ClearsAtOnce
returns-in-ClearsAtOnce c =
    let a = c.args in
    let done = c.clears_at_once.ensures in
    let e = c.in-ClearsAtOnce.is in
    record { rule = λ l. done_as [] a.t l a.self c.clears_at_once.result e (λ size p. done.rule l _); none = λ n. absurd (moved e tt n) }

pub returns-in-Quotes : goal.returns-in-Quotes
returns-in-Quotes c =
    let a = c.args in
    let done = c.quotes.ensures in
    let e = c.in-Quotes.is in
    record { rule = λ l. done_as [] a.t l a.self c.quotes.result e (λ size p. done.rule 22 (lent a.t a.text.now l) _ _); none = λ n. absurd (moved e tt n) }

pub returns-in-Clears : goal.returns-in-Clears
returns-in-Clears c =
    let a = c.args in
    let done = c.clears.ensures in
    let e = c.in-Clears.is in
    record { rule = λ l. done_as [] a.t l a.self c.clears.result e (λ size p. done.rule l _); none = λ n. absurd (moved e tt n) }

pub returns-in-FlipsDiscard : goal.returns-in-FlipsDiscard
returns-in-FlipsDiscard c =
    let a = c.args in
    let done = c.flips_discard.ensures in
    let e = c.in-FlipsDiscard.is in
    record { rule = λ l. done_as [] a.t l a.self c.flips_discard.result e (λ size p. done.rule 15 (lent a.t a.text.now l) _); none = λ n. absurd (moved e tt n) }

pub returns-in_default : goal.returns-in_default
returns-in_default c =
    let a = c.args in
    let none = (rest a.act).key c.requires.act_value c.in_default.in_default-own.keys8 in
    record { rule = λ l. done_as [] a.t l a.self a.self none (λ size p. still_does _ _ _); none = λ n. refl }
