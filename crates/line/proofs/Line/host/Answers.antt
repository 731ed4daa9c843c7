use Rattle.std.proofs.Common.{rules as found_alone, ◌≡◌, refl, sym, ap, ◌∙◌, arith, Ok}
use Rattle.rules.specs.Refusals.{answered}
use Rattle.rules.specs.Calls as rules
use Rattle.rules.specs.Calls.{refuses}
use Rattle.rules.proofs.RefusalNumbers.{never-accepted}
use Rattle.message.specs.Found.{found_in, found_number}
use Rattle.line.specs.View.{view}
use Rattle.rules.proofs.Bounds.Bytes.{bytes_all}
use Rattle.line.proofs.HostAccepted.{host_sends}
use Rattle.line.proofs.Answers.{refused}
use Rattle.line.proofs.ReceivedMessage.{early_refused, early_passed, outcome_refused, found-refused, server_found, late-refused, is_accepted}
use Rattle.line.proofs.Line.host.Goals as goal

pub returns-in-Err : goal.returns-in-Err
returns-in-Err c =
    let a = c.args in
    let l = a.self in
    let s = a.s.now in
    let t = a.terminal.now in
    let m = a.messages.now in
    let row = c.early_row.ensures in
    refused (rules.message s) l t m _ c.requires
    (early_refused l t m s (sym (ap answered c.in-Err.is) ∙ row) (never-accepted c.in-Err.early)) c.refuse.ensures

pub returns-in_default-found : goal.returns-in_default-found
returns-in_default-found c =
    let a = c.args in
    let l = a.self in
    let s = a.s.now in
    let t = a.terminal.now in
    let m = a.messages.now in
    let early : c.early_row.result ≡ Ok _ = search found_alone in
    let row = sym (ap answered early) ∙ c.early_row.ensures in
    let told = c.in_default-found.is in
    let found = ap (found_in s) (sym told) ∙ c.decode-found.ensures.fields in
    let number = c.found_number-number.ensures ∙ ap found_number told in
    let passed = early_passed l t m s row refl in
    refused (rules.message s) l t m _ c.requires
    (outcome_refused l t m s row refl (found-refused l s passed.3 passed.2 _ found) ∙ ap (λ n. refuses n (view l)) (sym number))
    c.refuse_with.ensures

pub returns-in_default-of : goal.returns-in_default-of
returns-in_default-of c =
    let a = c.args in
    let l = a.self in
    let s = a.s.now in
    let early : c.early_row.result ≡ Ok _ = search found_alone in
    let row = sym (ap answered early) ∙ c.early_row.ensures in
    let passed = early_passed l a.terminal.now a.messages.now s row refl in
    let found = ap (found_in s) (sym c.in-Ok.is) ∙ c.decode-found.ensures.fields in
    absurd (server_found s passed.2 _ (sym c.of.ensures ∙ c.in_default-of.is) found)

pub returns-in-Err-late_row : goal.returns-in-Err-late_row
returns-in-Err-late_row c =
    let a = c.args in
    let l = a.self in
    let s = a.s.now in
    let t = a.terminal.now in
    let m = a.messages.now in
    let early : c.early_row.result ≡ Ok _ = search found_alone in
    let row = sym (ap answered early) ∙ c.early_row.ensures in
    let message = c.in-Ok.m in
    let host = c.in-Some.h in
    let found = ap (found_in s) (sym c.in-Ok.is) ∙ c.decode-found.ensures.fields in
    let sent = host_sends message host (sym c.of.ensures ∙ c.in-Some.is) in
    let is = ap answered c.in-Err-late_row.is in
    let late = late-refused l s message host sent found (λ x held defined. sym is ∙ c.late_row.ensures x held defined) (never-accepted c.in-Err-late_row.late) in
    refused (rules.message s) l t m _ c.requires (outcome_refused l t m s row refl late) c.refuse-in-Err-late_row.ensures

pub obeys-requires : goal.obeys-requires
obeys-requires c =
    let a = c.args in
    let l = a.self in
    let s = a.s.now in
    let early : c.early_row.result ≡ Ok _ = search found_alone in
    let row = sym (ap answered early) ∙ c.early_row.ensures in
    let passed = early_passed l a.terminal.now a.messages.now s row refl in
    let message = c.in-Ok.m in
    let host = c.in-Some.h in
    let found = ap (found_in s) (sym c.in-Ok.is) ∙ c.decode-found.ensures.fields in
    let sent = host_sends message host (sym c.of.ensures ∙ c.in-Some.is) in
    let bytes = bytes_all s (λ i. omega (arith, c.type_inv.s i)) in
    let late : c.late_row.result ≡ Ok _ = search found_alone in
    let judged = ap answered late in
    let accepted = is_accepted l s message host sent found c.late_row.ensures judged bytes passed.1 in
    record { bounded = c.requires; accepted = accepted; messages_value = passed.0 }
