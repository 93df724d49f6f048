use Rattle.vector_lines.specs.Placed.{IsPlacedLane}
use Rattle.vector_lines.specs.Lanes.{AreLanes}
use Rattle.vector_lines.proofs.PlacedTests.{planned_from}
use Rattle.vector_lines.proofs.placing.Setting.lanes.Given as goal

abbrev pub invariant-loop-place : goal.invariant-loop-place
invariant-loop-place g l = AreLanes (IsPlacedLane (g.C.Contents.keys l.contents) l.self.placed.now.soc l.self.placed.now.plan) (planned_from l.self.placed.now.plan l.self.placed.now.soc.modules l.place) l.lanes.items
