use Rattle.std.proofs.Common.{sym, ◌∙◌, codes, nat_le}
use Rattle.soc_reader.specs.Keywords.{sized}
use Rattle.soc_reader.proofs.WordFacts.{named-same}
use Rattle.soc_reader.proofs.lexicon.long_keyword.Goals as goal

pub returns-then-same_word : goal.returns-then-same_word
returns-then-same_word c = sym (named-same c.args.word.now (codes "Patterns") (sized (nat_le 8)) (sym c.same_word.ensures ∙ c.if-same_word.true))
