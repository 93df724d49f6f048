use Rattle.width_tree.proofs.Faults.{one_tree}
use Rattle.width_tree.proofs.laws.nodes_tell_the_tree.Goals as goal

pub returns : goal.returns
returns c = one_tree
