use Rattle.std.proofs.Common.{Err, inl, refl, subst}
use Rattle.proof_text.specs.Answers.{ProofRead}
use Rattle.commands.proofs.OwnFiles.{bytes_refused}
use Rattle.bound_commands.specs.ProofReadings.{SaysAcceptedProof, RefusesProof}
use Rattle.bound_commands.specs.ProofTexts.{proof_line}
use Rattle.bound_commands.proofs.checking.accepted_proof.Goals as goal

pub returns-in-Err-Text-clause-refused : goal.returns-in-Err-Text-clause-refused
returns-in-Err-Text-clause-refused c answer =
    let p = c.args.problem.now in
    let why = subst (λ fault. ProofRead c.args.bytes.now (Err fault)) c.in-Err-Text.field-0-is c.in-Err-Text.ensures in
    bytes_refused (SaysAcceptedProof p.soc p.limits) (RefusesProof p.soc p.limits) answer c.args.bytes.now (proof_line c.in-Err-Text.line) _ _ (inl (c.in-Err-Text.line, why, refl)) c.proof_line.ensures.text c.proof_line.ensures.line c.refused_with.ensures
