use Rattle.tester_commands.proofs.RetargetTexts.{vectors_again}
use Rattle.tester_commands.proofs.laws.full_data_gives_vectors.Goals as goal

pub returns : goal.returns
returns c = vectors_again
