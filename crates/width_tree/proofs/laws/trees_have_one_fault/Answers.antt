use Rattle.width_tree.proofs.Faults.{one_fault}
use Rattle.width_tree.proofs.laws.trees_have_one_fault.Goals as goal

pub returns : goal.returns
returns c = one_fault
