use Rattle.vector_lines.proofs.Columns.{blank_line}
use Rattle.vector_lines.proofs.lines.put_blank.Goals as goal

pub returns-clause-blank : goal.returns-clause-blank
returns-clause-blank c =
    (blank_line c.args.wires c.args.row c.put_across.ensures c.put_across-2.ensures c.put_across-3.ensures c.put_across-4.ensures).1.0
