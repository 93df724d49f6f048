use Rattle.vector_lines.proofs.Walks.{line_of}
use Rattle.vector_lines.proofs.made.Line.of.Goals as goal

pub returns-clause-bits : goal.returns-clause-bits
returns-clause-bits c = λ n. line_of c.args.base c.args.pattern c.args.side n
