use Rattle.areas.proofs.Putting.{joins}
use Rattle.fronts.proofs.start_read.put_words.Goals as goal

pub returns : goal.returns
returns c =
    joins c.put_word.ensures (joins c.put_word-2.ensures (joins c.put_word-3.ensures (joins c.put_word-4.ensures (joins c.put_word-5.ensures c.put_word-6.ensures))))
