use Rattle.std.proofs.Common.{length}
use Rattle.outside.specs.Words.{words_of}
use Rattle.outside.proofs.Progress.{Progress}
use Rattle.outside.proofs.reading.read_text.Given as goal

abbrev pub invariant-loop-word : goal.invariant-loop-word
invariant-loop-word g l = Progress (g.R.Reader.has_read l.reader) (words_of l.bytes) l.words

abbrev pub decreases-loop-word : goal.decreases-loop-word
decreases-loop-word g l = length l.words
