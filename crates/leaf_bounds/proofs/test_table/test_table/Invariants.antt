use Rattle.std.proofs.Common.{◌≡◌, map, take}
use Rattle.std.specs.List.{range_with_len}
use Rattle.soc_model.specs.Chips.{soc_value, live_from}
use Rattle.leaf_bounds.specs.TestTables.{AreTestsAt, tests_before}
use Rattle.leaf_bounds.proofs.test_table.test_table.Given as goal

abbrev pub invariant-loop-place : goal.invariant-loop-place
invariant-loop-place l = record {
  tests : AreTestsAt (soc_value l.soc) l.limits (live_from 0 (take l.place (soc_value l.soc).modules)) l.tests.items;
  starts : l.starts.items ≡ map (tests_before (soc_value l.soc)) (range_with_len 0 l.place);
}
