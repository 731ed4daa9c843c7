use mathlib.Core.Path.{ap}
use native.Mathlib.Omega.{arith}
use mathlib.Core.List.{[]}
use Rattle.rules.specs.Numbers.{unsound_record}
use Rattle.rules.specs.Calls as rules
use Rattle.rules.specs.Bounds.{is_byte_event}
use Rattle.rules.proofs.Choice.{both}
use Rattle.rules.proofs.Bounds.Bytes.{bytes_all}
use Rattle.line.specs.Answers.{refusal}
use Rattle.line.proofs.Answers.{refused}
use Rattle.console.proofs.LoadedLine.{both_sound, load_refused, loaded_answers}
use Rattle.console.proofs.loading.load.Goals as goal

pub returns-then-not-is_sound : goal.returns-then-not-is_sound
returns-then-not-is_sound c =
    let a = c.args in
    let own = a.own.now in
    let site = a.site.now in
    let sound = both_sound own site c.is_sound.ensures c.is_sound-2.ensures c.if-not-is_sound.true in
    refused (rules.load own site) a.line [] [] unsound_record c.requires (load_refused own site a.line sound) (ap (λ n. refusal n a.line) c.number.ensures)

pub loaded-next-requires : goal.loaded-next-requires
loaded-next-requires c = c.requires.counted

pub returns : goal.returns
unfolding is_byte_event
returns c =
    let a = c.args in
    let own = a.own.now in
    let site = a.site.now in
    let sound = both_sound own site c.is_sound.ensures c.is_sound-2.ensures c.if-not-is_sound.false in
    let ours = bytes_all own (λ i. omega (arith, c.type_inv.own i)) in
    let theirs = bytes_all site (λ i. omega (arith, c.type_inv.site i)) in
    loaded_answers own site a.line c.requires sound (both ours theirs) c.loaded-next.result c.loaded-next.ensures
