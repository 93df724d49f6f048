use Rattle.tester_commands.proofs.ContentTexts.{content_again}
use Rattle.tester_commands.proofs.laws.data_of_contents_gives_vectors.Goals as goal

pub returns : goal.returns
returns c = content_again
