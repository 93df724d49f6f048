-- What is answered of a proof's text.
use Rattle.std.specs.Prelude.{ℕ, List, Result, Ok, Err}
use Rattle.outside.specs.declared.reading.Unread.{Unread}
use Rattle.outside.specs.declared.reading.Unread.TheVariants as unread
use Rattle.keyword_text.specs.Texts.{Says, Refuses}
use Rattle.plan_model.specs.declared.proof.Proof.{Proof}
use Rattle.proof_text.specs.declared.ProofTextFault.{ProofTextFault}
use Rattle.proof_text.specs.declared.ProofTextFault.TheVariants.{Text, NoMemory}
use Rattle.plan_model.specs.Proofs.{ProofValue, proof_value}
use Rattle.plan_model.specs.Sayable.{MayBeSaid}
use Rattle.proof_text.specs.Grammar.{proof_grammar, IsInRange}

-- the text says this proof
abbrev pub SaysProof : List ℕ → ProofValue → Type 0
SaysProof bytes proof = Says proof_grammar bytes proof

-- the text says it where a text may say it, with its numbers in the grammar's range
abbrev pub IsReadAgain : List ℕ → ProofValue → Type 0
IsReadAgain bytes proof = MayBeSaid proof → IsInRange proof → SaysProof bytes proof

-- the grammar refuses the text at this line
abbrev pub RefusesText : List ℕ → ℕ → Type 0
RefusesText bytes line = Refuses proof_grammar bytes line

-- why a proof isn't read
abbrev pub proof_unread : ProofTextFault → Unread
proof_unread (Text line) = unread.Refused line
proof_unread NoMemory = unread.NoMemory

-- a proof that a text says
pub record IsReadProof (bytes : List ℕ) (proof : ProofValue) : Type 0 where
  pub said : SaysProof bytes proof
  pub range : IsInRange proof

-- The proof that the text says, with all its numbers in the grammar's range; or the line at which the grammar refuses the text; or
-- memory ran out.
abbrev pub ProofRead : List ℕ → Result Proof ProofTextFault → Type 0
ProofRead bytes (Ok proof) = IsReadProof bytes (proof_value proof)
ProofRead bytes (Err (Text line)) = RefusesText bytes line
ProofRead bytes (Err NoMemory) = Unit {0}
