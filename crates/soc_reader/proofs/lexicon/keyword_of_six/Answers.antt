use Rattle.std.proofs.Common.{sym, ◌∙◌, codes, nat_eq}
use Rattle.soc_reader.specs.Keywords.{sized}
use Rattle.soc_reader.proofs.WordFacts.{named-same}
use Rattle.soc_reader.proofs.lexicon.keyword_of_six.Goals as goal

pub returns-then-same_word-2 : goal.returns-then-same_word-2
returns-then-same_word-2 c = sym (named-same c.args.word.now (codes "TamUse") (sized (nat_eq 6)) (sym c.same_word-2.ensures ∙ c.if-same_word-2.true))
