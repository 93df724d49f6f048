use Rattle.proof_text.proofs.ProofTexts.{reads_proofs, answered, each_proof_text}
use Rattle.proof_text.proofs.text_laws.proof_texts_are_settled.Goals as goal

pub texts_are_settled-requires-after_bounds : goal.texts_are_settled-requires-after_bounds
texts_are_settled-requires-after_bounds c κs = reads_proofs

pub returns-clause-have_answers : goal.returns-clause-have_answers
returns-clause-have_answers c = each_proof_text

pub returns-clause-are_answered : goal.returns-clause-are_answered
returns-clause-are_answered c = answered
