use Rattle.cycle_texts.proofs.VectorRows.{vectors_shown}
use Rattle.cycle_texts.proofs.laws.rows_show_vectors.Goals as goal

pub returns : goal.returns
returns c = vectors_shown
