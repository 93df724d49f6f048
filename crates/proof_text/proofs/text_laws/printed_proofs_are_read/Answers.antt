use Rattle.proof_text.proofs.PrintedProofs.{printed_is_read}
use Rattle.proof_text.proofs.ProofTexts.{printed_answered}
use Rattle.proof_text.proofs.text_laws.printed_proofs_are_read.Goals as goal

pub returns-clause-said : goal.returns-clause-said
returns-clause-said c = printed_is_read

pub returns-clause-answered : goal.returns-clause-answered
returns-clause-answered c = printed_answered
