use Rattle.tester_commands.proofs.DataFiles.{data_one, data_refused_one}
use Rattle.tester_commands.proofs.laws.data_files_say_one_thing.Goals as goal

pub returns-clause-says : goal.returns-clause-says
returns-clause-says c = data_one

pub returns-clause-refused : goal.returns-clause-refused
returns-clause-refused c = data_refused_one
