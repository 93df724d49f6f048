use Rattle.std.proofs.Common.{◌++◌, List, take}
use Rattle.soc_model.specs.Chips.{module_value}
use Rattle.plan_model.specs.Plans.{PlannedTest}
use Rattle.vector_lines.specs.Placed.{planned_in, IsPlacedLane}
use Rattle.vector_lines.specs.Lanes.{AreLanes}
use Rattle.vector_lines.proofs.placing.Setting.push_module.Given as goal

abbrev pub invariant-loop-at : goal.invariant-loop-at
invariant-loop-at g l = (done : List PlannedTest) → AreLanes (IsPlacedLane (g.C.Contents.keys l.contents) l.self.placed.now.soc l.self.placed.now.plan) done l.initial.lanes.items →
    AreLanes (IsPlacedLane (g.C.Contents.keys l.contents) l.self.placed.now.soc l.self.placed.now.plan) (done ++ planned_in l.self.placed.now.plan l.place (module_value l.«module») (take l.at l.«module».tests.items)) l.lanes.items
