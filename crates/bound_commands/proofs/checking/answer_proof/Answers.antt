use Rattle.bound_commands.specs.ProofTexts.{bound_line}
use Rattle.bound_commands.proofs.checking.answer_proof.Goals as goal

pub returns-in-Err : goal.returns-in-Err
returns-in-Err c = rw c.problem.ensures at c.in-Err.ensures.refused bound_line
