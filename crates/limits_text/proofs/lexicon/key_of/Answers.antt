use Rattle.std.proofs.Common.{sym, ◌∙◌}
use Rattle.limits_text.proofs.WordFacts.{before_key}
use Rattle.limits_text.proofs.lexicon.key_of.Goals as goal

pub returns-then-same_word : goal.returns-then-same_word
returns-then-same_word c = before_key c.args.word.now (sym c.same_word.ensures ∙ c.if-same_word.true)
