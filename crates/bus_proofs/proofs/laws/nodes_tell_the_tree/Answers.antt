use Rattle.bus_proofs.proofs.AcceptedProofs.{one_tree}
use Rattle.bus_proofs.proofs.laws.nodes_tell_the_tree.Goals as goal

pub returns : goal.returns
returns c = one_tree
