use Rattle.width_tree.proofs.ReadTrees.{reads_trees}
use Rattle.width_tree.proofs.reading.read_tree.Goals as goal

pub read_by-requires-clause-reads : goal.read_by-requires-clause-reads
read_by-requires-clause-reads c κs = reads_trees
