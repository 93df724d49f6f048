use Rattle.vector_lines.proofs.Responses.{response_length}
use Rattle.vector_lines.proofs.laws.responses_have_lengths.Goals as goal

pub returns : goal.returns
returns c = response_length
