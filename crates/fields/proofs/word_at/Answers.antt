use Rattle.std.proofs.Common.{rules}
use Rattle.rules.specs.Messages.Layout.{number_of}
use Rattle.fields.proofs.word_at.Goals as goal

pub returns : goal.returns
unfolding number_of
returns c = search rules
