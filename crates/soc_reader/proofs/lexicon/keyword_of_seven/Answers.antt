use Rattle.std.proofs.Common.{sym, ◌∙◌, codes, nat_eq}
use Rattle.soc_reader.specs.Keywords.{sized}
use Rattle.soc_reader.proofs.WordFacts.{named-same}
use Rattle.soc_reader.proofs.lexicon.keyword_of_seven.Goals as goal

pub returns-then-same_word : goal.returns-then-same_word
returns-then-same_word c = sym (named-same c.args.word.now (codes "ScanUse") (sized (nat_eq 7)) (sym c.same_word.ensures ∙ c.if-same_word.true))

pub returns-then-same_word-2 : goal.returns-then-same_word-2
returns-then-same_word-2 c = sym (named-same c.args.word.now (codes "Outputs") (sized (nat_eq 7)) (sym c.same_word-2.ensures ∙ c.if-same_word-2.true))
