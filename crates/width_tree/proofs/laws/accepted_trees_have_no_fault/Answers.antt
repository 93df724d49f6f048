use Rattle.width_tree.proofs.Faults.{no_fault}
use Rattle.width_tree.proofs.laws.accepted_trees_have_no_fault.Goals as goal

pub returns : goal.returns
returns c = no_fault
