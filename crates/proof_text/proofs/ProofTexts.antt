-- What a proof's text says is settled.
use Rattle.std.proofs.Common.{◌⊎◌, inl, inr, ℕ, List, arith, Result, Ok, Err}
use Rattle.outside.specs.Words.{words_of}
use Rattle.keyword_text.specs.Machines.{ReadsGrammar}
use Rattle.keyword_text.specs.Reads.{IsReadText}
use Rattle.keyword_text.proofs.Ranges.{spelled_small}
use Rattle.keyword_text.proofs.EachText.{each_text}
use Rattle.plan_model.specs.declared.proof.Proof.{Proof}
use Rattle.proof_text.specs.declared.ProofTextFault.{ProofTextFault}
use Rattle.proof_text.specs.declared.ProofTextFault.TheVariants.{Text, NoMemory}
use Rattle.plan_model.specs.Proofs.{ProofValue, proof_value}
use Rattle.proof_text.specs.Tokens.{spelling, proof_lexicon}
use Rattle.proof_text.specs.ProofLines.{proof_tokens, proof_text}
use Rattle.proof_text.specs.Grammar.{proof_grammar}
use Rattle.proof_text.specs.Words.{proof_machine}
use Rattle.proof_text.specs.Answers.{SaysProof, RefusesText, proof_unread, IsReadProof, ProofRead}
use Rattle.proof_text.specs.TextLaws.{ProofTextsHaveAnswers, ProofsAreAnswered, PrintedProofsAreAnswered}
use Rattle.proof_text.proofs.SoundWords.{read_holds, proof_said}
use Rattle.proof_text.proofs.CompleteWords.{proof_read}
use Rattle.proof_text.proofs.EndableWords.{may_end}
use Rattle.proof_text.proofs.PrintedProofs.{key_back, printed_is_read}
use Rattle.keyword_text.proofs.Settled as texts

-- what reads proofs reads their grammar
pub reads_proofs : ReadsGrammar proof_grammar proof_machine
reads_proofs = record {
  sound = λ ts s p small runs ends. proof_said ts s p runs ends;
  complete = proof_read;
  endable = λ ts s runs. may_end ts s (read_holds ts s runs);
  spelled = λ k. record { word = spelling k; is = key_back k };
  fits = omega arith;
}

abbrev IsReadAs : List ℕ → Result Proof ProofTextFault → Type 0
IsReadAs bytes answer = IsReadText proof_grammar proof_value proof_unread bytes answer

-- a proof that a text says has its numbers in the grammar's range
pub said_in_range : (bytes : List ℕ) (proof : ProofValue) → SaysProof bytes proof → IsReadProof bytes proof
said_in_range bytes proof said = record { said = said; range = spelled_small proof_lexicon (words_of bytes) (proof_tokens proof) said.words }

-- what was not read
pub not_read : (bytes : List ℕ) (fault : ProofTextFault) → IsReadAs bytes (Err fault) → ProofRead bytes (Err fault)
not_read bytes (Text line) is = is
not_read bytes NoMemory is = tt

read_as : (bytes : List ℕ) (answer : Result Proof ProofTextFault) → ProofRead bytes answer → IsReadAs bytes answer
read_as bytes (Ok proof) is = is.said
read_as bytes (Err (Text line)) is = is
read_as bytes (Err NoMemory) is = tt

pub answered : ProofsAreAnswered
answered bytes proof answer is says = texts.answered proof_grammar proof_machine reads_proofs proof_value proof_unread bytes proof answer (read_as bytes answer is) says

pub printed_answered : PrintedProofsAreAnswered
printed_answered proof answer may range is = answered (proof_text proof) proof answer is (printed_is_read proof may range)

pub each_proof_text : ProofTextsHaveAnswers
each_proof_text bytes = by (each_text proof_grammar proof_machine reads_proofs bytes) where
  by : ((proof : ProofValue) × SaysProof bytes proof) ⊎ ((line : ℕ) × RefusesText bytes line) → ((proof : ProofValue) × IsReadProof bytes proof) ⊎ ((line : ℕ) × RefusesText bytes line)
  by (inl (proof, said)) = inl (proof, said_in_range bytes proof said)
  by (inr refused) = inr refused
