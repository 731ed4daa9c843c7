use Rattle.std.proofs.Common.{rules, ◌≡◌, sym, ap, ◌∙◌, Err, Ok}
use Rattle.rules.specs.Refusals.{number_of, answered}
use Rattle.rules.proofs.RefusalNumbers.{never-accepted}
use native.Mathlib.Omega.{arith}
use Rattle.fields.specs.Spans.{span_of}
use Rattle.parameters.specs.Lists.{sound_from}
use Rattle.writing.specs.Spans.{list_bytes}
use Rattle.areas.proofs.Putting.{equals, joins}
use Rattle.areas.proofs.InFront.{refusal, put_in_front}
use Rattle.rules.proofs.Bounds.Bytes.{bytes_all}
use Rattle.writing.proofs.Writes.{list_whole, whole_bytes, encode_refused, encode_sound, encode_fits, encode_room}
use Rattle.writing.proofs.encoding.encode.Goals as goal

pub returns-in_err-may_write : goal.returns-in_err-may_write
returns-in_err-may_write c =
    let e = c.in_err-may_write.field-0.0 in
    let was : c.may_write.result ≡ Err e = search rules in
    let answer : c.from_residual.result ≡ Err e = search rules in
    let number : answered c.may_write.result ≡ number_of e = ap answered was in
    rw answer
    (refusal
    (encode_refused _ _ _ c.of-p.ensures c.size.ensures c.lie_in-lies.ensures c.fits_message-fits.ensures
    (sym number ∙ c.may_write.ensures) (never-accepted e)))

pub put_list-requires : goal.put_list-requires
put_list-requires c =
    let was : c.may_write.result ≡ Ok _ = search rules in
    let is = c.of-p.ensures in
    let a = c.args in
    let s = a.s.now in
    let bytes = bytes_all s (λ i. omega (arith, c.type_inv.s i)) in
    let fits =
    encode_fits _ s a.m is c.size.ensures c.lie_in-lies.ensures c.fits_message-fits.ensures
    c.may_write.ensures (ap answered was)
    in
    λ k. ap (λ q. sound_from 11 0 (span_of s q.list)) is ∙ list_whole s bytes a.m fits (ap (λ q. q.kind) (sym is) ∙ k)

pub returns : goal.returns
returns c =
    let was : c.may_write.result ≡ Ok _ = search rules in
    let is = c.of-p.ensures in
    let a = c.args in
    let s = a.s.now in
    let bytes = bytes_all s (λ i. omega (arith, c.type_inv.s i)) in
    let size = c.size.ensures in
    let lies = c.lie_in-lies.ensures in
    let fit = c.fits_message-fits.ensures in
    let number = c.may_write.ensures in
    let none = ap answered was in
    let list = equals (ap (λ q. list_bytes q.kind (span_of s q.list)) is) c.put_list.ensures in
    let whole = equals (whole_bytes s bytes a.m (encode_fits _ s a.m is size lies fit number none)) (joins c.put_message.ensures list) in
    put_in_front (encode_sound _ s a.m is size lies fit number none) (encode_room _ s a.m is size lies fit number none) (search rules)
