use Rattle.width_tree.proofs.ReadTrees.{reads_trees}
use Rattle.width_tree.proofs.laws.each_text_has_an_answer.Goals as goal

pub texts_are_settled-requires-after_bounds : goal.texts_are_settled-requires-after_bounds
texts_are_settled-requires-after_bounds c κs = reads_trees
