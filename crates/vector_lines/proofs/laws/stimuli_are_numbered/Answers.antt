use Rattle.vector_lines.proofs.Stimuli.{stimulus_number}
use Rattle.vector_lines.proofs.laws.stimuli_are_numbered.Goals as goal

pub returns : goal.returns
returns c = stimulus_number
