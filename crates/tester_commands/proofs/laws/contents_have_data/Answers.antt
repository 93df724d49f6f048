use Rattle.tester_commands.proofs.DataOfContents.{data_of}
use Rattle.tester_commands.proofs.laws.contents_have_data.Goals as goal

pub returns : goal.returns
returns c = data_of
