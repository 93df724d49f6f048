-- What a proof's text says is settled.
use Rattle.std.specs.Prelude.{◌⊎◌, ℕ, List, Result}
use Rattle.keyword_text.specs.Reads.{IsAnswer}
use Rattle.keyword_text.specs.Laws.{SayOne, AreNotRefused, AreRefusedOnce}
use Rattle.plan_model.specs.declared.proof.Proof.{Proof}
use Rattle.proof_text.specs.declared.ProofTextFault.{ProofTextFault}
use Rattle.plan_model.specs.Proofs.{ProofValue, proof_value}
use Rattle.proof_text.specs.ProofLines.{proof_text}
use Rattle.plan_model.specs.Sayable.{MayBeSaid}
use Rattle.proof_text.specs.Grammar.{proof_grammar, IsInRange}
use Rattle.proof_text.specs.Answers.{SaysProof, IsReadAgain, RefusesText, proof_unread, IsReadProof, ProofRead}

-- words are the text of at most one proof
abbrev pub SayOneProof : Type 0
SayOneProof = SayOne proof_grammar

-- words that are the text of a proof are refused at no line
abbrev pub ProofsAreNotRefused : Type 0
ProofsAreNotRefused = AreNotRefused proof_grammar

-- words are refused at no more than one line
abbrev pub ProofsAreRefusedOnce : Type 0
ProofsAreRefusedOnce = AreRefusedOnce proof_grammar

-- a text says a proof in the grammar's range, or is refused at a line
abbrev pub ProofTextsHaveAnswers : Type 0
ProofTextsHaveAnswers =
    (bytes : List ℕ) → ((proof : ProofValue) × IsReadProof bytes proof) ⊎ ((line : ℕ) × RefusesText bytes line)

-- the answer for a text that says this proof: the proof, unless memory runs out
abbrev pub IsProofAnswer : ProofValue → Result Proof ProofTextFault → Type 0
IsProofAnswer proof answer = IsAnswer proof_value proof_unread proof answer

-- a text that says a proof is answered with that proof, unless memory runs out
abbrev pub ProofsAreAnswered : Type 0
ProofsAreAnswered =
    (bytes : List ℕ) (proof : ProofValue) (answer : Result Proof ProofTextFault) → ProofRead bytes answer → SaysProof bytes proof
    → IsProofAnswer proof answer

-- the printed text of a proof that a text may say, with its numbers in the grammar's range, says that proof
abbrev pub PrintedProofsAreRead : Type 0
PrintedProofsAreRead = (proof : ProofValue) → IsReadAgain (proof_text proof) proof

-- and is answered with that proof, unless memory runs out
abbrev pub PrintedProofsAreAnswered : Type 0
PrintedProofsAreAnswered =
    (proof : ProofValue) (answer : Result Proof ProofTextFault) → MayBeSaid proof → IsInRange proof → ProofRead (proof_text proof) answer
    → IsProofAnswer proof answer
