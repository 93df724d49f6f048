use Rattle.test_data.specs.DataPlaces.{bits_value}
use Rattle.tester_commands.proofs.SaidBits.{said_load, no_load}
use Rattle.tester_commands.proofs.contents.DataContentsContents.stimulus.Goals as goal

pub returns-in-Some-clause-bits : goal.returns-in-Some-clause-bits
returns-in-Some-clause-bits c = λ n. said_load c.args.self.now.test_data.now c.args.key c.args.pattern n (bits_value c.in-Some.words) c.in-Some.ensures

pub returns-in-None-clause-bits : goal.returns-in-None-clause-bits
returns-in-None-clause-bits c = λ n. no_load c.args.self.now.test_data.now c.args.key c.args.pattern n c.in-None.ensures
