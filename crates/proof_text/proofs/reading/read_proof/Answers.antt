use Rattle.plan_model.specs.Proofs.{proof_value}
use Rattle.proof_text.proofs.ProofTexts.{reads_proofs, said_in_range, not_read}
use Rattle.proof_text.proofs.reading.read_proof.Goals as goal

pub read_by-requires-clause-reads : goal.read_by-requires-clause-reads
read_by-requires-clause-reads c κs = reads_proofs

pub returns-in-Ok-read_by : goal.returns-in-Ok-read_by
returns-in-Ok-read_by c = said_in_range c.args.bytes.now (proof_value c.in-Ok-read_by.proof) c.in-Ok-read_by.ensures

pub returns-in-Err-read_by : goal.returns-in-Err-read_by
returns-in-Err-read_by c = not_read c.args.bytes.now c.in-Err-read_by.fault c.in-Err-read_by.ensures
