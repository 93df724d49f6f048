use Rattle.vector_lines.proofs.PlacedLanes.{self_placed}
use Rattle.vector_lines.proofs.placing.Setting.lane_of.Goals as goal

pub test-placed-requires-clause-test_there : goal.test-placed-requires-clause-test_there
test-placed-requires-clause-test_there g c = (c.args.at, c.requires.test_there)

pub returns-in-None : goal.returns-in-None
returns-in-None g c =
    self_placed c.args.self.now.placed.now.soc c.args.self.now.placed.now.plan c.args.core.now.place c.args.at c.requires.module_there c.requires.test_there c.requires.live
    (g.C.Contents.keys c.args.contents.now) c.self_test.result c.test-placed.ensures c.in-None.is c.self_test.ensures
