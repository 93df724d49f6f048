use Rattle.width_tree.proofs.CaseBounds.{accepted_bounds}
use Rattle.width_tree.proofs.laws.accepted_trees_are_bounds.Goals as goal

pub returns : goal.returns
returns c = accepted_bounds
