use Rattle.tester_vectors.proofs.DrivenByText.{runs_as_shown}
use Rattle.tester_vectors.proofs.laws.vectors_run_as_shown.Goals as goal

pub returns : goal.returns
returns c = λ soc limits plan content good. runs_as_shown soc limits plan content good
