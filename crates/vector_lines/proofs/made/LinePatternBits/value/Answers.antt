use Rattle.vector_lines.proofs.Walks.{value_of}
use Rattle.vector_lines.proofs.made.LinePatternBits.value.Goals as goal

pub returns : goal.returns
returns c = value_of c.args.self.now.first c.args.self.now.step c.args.number
