use Rattle.std.proofs.Common.{◌≡◌, ◌+◌, ◌*◌, ◌≤◌, ◌^◌, length, map, sum_by, All}
use Rattle.soc_model.specs.Chips.{soc_value, module_value}
use Rattle.soc_model.proofs.Sums.{IsBounded}
use Rattle.split_plan.specs.Steps.{module_work, total_work}
use Rattle.split_plan.proofs.numbers.total_work.Given as goal

abbrev pub invariant-loop-module : goal.invariant-loop-module
invariant-loop-module l =
    (l.sum + sum_by (module_work l.most) (map module_value l.module-iterator) ≡ total_work l.most (soc_value l.soc))
    × (l.sum + 10 ^ 32 * length l.module-iterator ≤ 10 ^ 35)
    × All IsBounded (map module_value l.module-iterator)
