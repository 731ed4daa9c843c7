use Rattle.std.proofs.Common.{◌∙◌}
use Rattle.rules.proofs.Numbers.{message_size_lem}
use Rattle.message.proofs.Decoding.{finds_refusal}
use Rattle.message.proofs.Types.{length_test_lem, wrong_length_lem}
use Rattle.message.proofs.decode.Goals as goal

pub returns-then-not-sized : goal.returns-then-not-sized
returns-then-not-sized c = finds_refusal (wrong_length_lem c.args.s.now message_size_lem c.if-not-sized.true)

pub decode_as-requires-clause-sized : goal.decode_as-requires-clause-sized
decode_as-requires-clause-sized c = length_test_lem c.args.s.now message_size_lem ∙ c.if-not-sized.false
