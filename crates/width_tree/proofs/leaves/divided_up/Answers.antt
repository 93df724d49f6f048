use Rattle.std.proofs.Common.{◌∙◌, arith}
use Rattle.bound_rules.proofs.Works.{div_ceil_is}
use Rattle.width_tree.proofs.leaves.divided_up.Goals as goal

pub returns : goal.returns
returns c = rw c.from-parts.ensures at (c.div_ceil.ensures ∙ div_ceil_is c.args.total c.from-parts.result (omega arith))
