use Rattle.std.proofs.Common.{refl}
use Rattle.vector_lines.proofs.Columns.{one_put}
use Rattle.vector_lines.proofs.lines.put_byte.Goals as goal

pub returns : goal.returns
returns c = one_put c.args.text.now c.args.at.wires c.args.at.row c.args.below c.args.at.column c.args.byte _ c.requires.column c.requires.row refl
