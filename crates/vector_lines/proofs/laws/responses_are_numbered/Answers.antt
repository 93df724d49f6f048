use Rattle.vector_lines.proofs.Responses.{response_number}
use Rattle.vector_lines.proofs.laws.responses_are_numbered.Goals as goal

pub returns : goal.returns
returns c = response_number
