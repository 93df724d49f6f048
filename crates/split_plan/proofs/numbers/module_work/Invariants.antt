use Rattle.std.proofs.Common.{◌≡◌, ◌*◌, ◌≤◌, ◌^◌, take, filter, sum_by}
use Rattle.soc_model.specs.Chips.{module_value, is_live}
use Rattle.split_plan.specs.Steps.{parts_work}
use Rattle.split_plan.proofs.numbers.module_work.Given as goal

abbrev pub invariant-loop-test : goal.invariant-loop-test
invariant-loop-test l =
    let m = module_value l.module in
    (l.sum ≡ sum_by (parts_work l.most m) (filter is_live (take l.test-index m.tests)))
    × (l.sum ≤ 2 * 10 ^ 28 * l.test-index)
