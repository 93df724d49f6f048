use Rattle.std.proofs.Common.{◌≡◌, ◌+◌, length, drop, All}
use Rattle.soc_model.specs.Chips.{soc_value, live_from, live_tests}
use Rattle.arch_schedule.specs.Problems.{IsTimed}
use Rattle.arch_schedule.proofs.problem.TimedTests.new.Given as goal

abbrev pub invariant-loop-place : goal.invariant-loop-place
invariant-loop-place l = record {
  timed : All (IsTimed l.wires (length l.modules.items)) l.tests.items;
  count : length l.tests.items + length (live_from l.place (drop l.place (soc_value l.soc).modules)) ≡ length (live_tests (soc_value l.soc));
}
