use Rattle.std.proofs.Common.{◌≡◌, drop}
use Rattle.keyword_text.specs.Tokens.{named, table_value}
use Rattle.keyword_text.proofs.tokens.keyword_of.Given as goal

abbrev pub invariant-loop-entry : goal.invariant-loop-entry
invariant-loop-entry g l = named (table_value (drop l.entry-index l.table)) l.word ≡ named (table_value l.table) l.word
