use Rattle.std.proofs.Common.{◌≡◌, ◌*◌, ◌≤◌, ◌^◌, take, sum_by}
use Rattle.split_plan.specs.Cuts.{part_count}
use Rattle.split_plan.proofs.numbers.count_parts.Given as goal

abbrev pub invariant-loop-test : goal.invariant-loop-test
invariant-loop-test l = (l.total ≡ sum_by (part_count l.most) (take l.test-index l.«module».tests.items)) × (l.total ≤ 10 ^ 12 * l.test-index)
