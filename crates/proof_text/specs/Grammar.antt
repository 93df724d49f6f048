-- The grammar of a proof's text: a set of whole lists of words.
use Rattle.plan_model.specs.declared.TheConstants.{PLAN_NUMBER_MOST}
use Rattle.keyword_text.specs.Texts.{Grammar, AllSmall}
use Rattle.proof_text.specs.declared.tokens.Keyword.{Keyword}
use Rattle.plan_model.specs.Proofs.{ProofValue}
use Rattle.plan_model.specs.Sayable.{MayBeSaid}
use Rattle.proof_text.specs.Tokens.{proof_lexicon}
use Rattle.proof_text.specs.ProofLines.{proof_tokens}

-- the words of a proof are those of its lines
abbrev pub proof_grammar : Grammar Keyword ProofValue
proof_grammar = record { lexicon = proof_lexicon; tokens = proof_tokens; Allowed = MayBeSaid }

-- every number of the proof's words is in the grammar's range
abbrev pub IsInRange : ProofValue → Type 0
IsInRange p = AllSmall PLAN_NUMBER_MOST (proof_tokens p)
