use Rattle.std.proofs.Common.{◌≡◌, ◌≤◌, ◌++◌, length, map, take, drop}
use Rattle.soc_model.specs.Chips.{live_from, soc_value}
use Rattle.plan_model.specs.Views.{plan_value}
use Rattle.live_tests.specs.Placed.{placed_tests}
use Rattle.live_tests.proofs.Placing.{placed_live}
use Rattle.plan_checker.proofs.placed.fill_tests.Given as goal

abbrev pub invariant-loop-place : goal.invariant-loop-place
invariant-loop-place l = record {
  within : l.next ≤ length l.placed;
  filled : take l.next l.placed ++ map (placed_live (plan_value l.from.plan.now)) (live_from l.place (drop l.place (soc_value l.from.soc.now).modules)) ≡ placed_tests (soc_value l.from.soc.now) (plan_value l.from.plan.now);
}
